-- What the code keeps of the chunks of a table on its way through them. Contracts within the crate
-- alone speak of this.
use Rattle.std.specs.Prelude.{◌≡◌, ℕ, ◌+◌, ◌≤◌, List, ◌∷◌, reverse, Option, Some, None, Result, Ok, OnOk, count_by}
use Rattle.contract_words.specs.Sequences.{Pushes}
use Rattle.type_chunks.specs.type_entries.declared.fault.TableFault.{TableFault}
use Rattle.type_chunks.specs.type_entries.declared.fault.TableFault.TheVariants.{OutOfMemory}
use Rattle.type_chunks.specs.chunk_walk.Chunk.{ChunkOf}
use Rattle.type_chunks.specs.chunk_walk.declared.chunk.ChunkFault.{ChunkFault}
use Rattle.type_chunks.specs.string_pool.Pool.{PoolOf, pool_of, empty_pool}
use Rattle.type_chunks.specs.string_pool.declared.pool.Pool.{Pool}
use Rattle.overlay_map.specs.declared.known_children.KnownChildren.{KnownChildren}
use Rattle.overlay_map.specs.TablePools.{pool_of_chunk}
use Rattle.overlay_map.specs.Package.{PackageOf}
use Rattle.overlay_map.specs.Table.{is_package, first_pool, packages_of_child}

-- the pool that is kept is the one that this chunk is; none is kept where there is no chunk
abbrev pub IsPoolOf : Option (Result ChunkOf ChunkFault) → Option Pool → Type 0
IsPoolOf None None = Unit {0}
IsPoolOf (Some (Ok chunk)) (Some pool) = pool_of_chunk chunk ≡ Ok (pool_of pool)
IsPoolOf found kept = ⊥

-- among these chunks, of which the nearest stands first, are so many packages, and this is the first pool
pub record KnowsChildren (known : KnownChildren) (before : List (Result ChunkOf ChunkFault)) : Type 0 where
  pub packages : known.packages ≡ count_by is_package before
  pub strings : IsPoolOf (first_pool (reverse before)) known.strings

-- the pool that is kept, or one without strings
abbrev pub or_empty : Option Pool → PoolOf
or_empty (Some pool) = pool_of pool
or_empty None = empty_pool

-- A call that reads one child more: what is known of the chunks, the packages in the list, and the list as it is seen.
pub record IsChildRead {X : Type 0} (old new : KnownChildren) (count new_count : ℕ) (list new_list : List PackageOf) (result : Result X TableFault) (child : Result ChunkOf ChunkFault) : Type 0 where
  pub one : OnOk result (new.packages ≤ old.packages + 1)
  pub one_package : OnOk result (new_count ≤ count + 1)
  pub known : (before : List (Result ChunkOf ChunkFault)) → KnowsChildren old before → OnOk result (KnowsChildren new (child ∷ before))
  pub packages : (before : List (Result ChunkOf ChunkFault)) → KnowsChildren old before → Pushes OutOfMemory list new_list result (packages_of_child (before, child))
