-- Tables (AOSP: ResTable_header): packages in the order of the file, and strings.
use Rattle.std.specs.Prelude.{ℕ, ◌&&◌, not, List, [], ◌∷◌, reverse, Bool, false, ◌==◌, count_by, find, Option, Some, None, is_none, Result, Ok, Err, if◌then◌else◌}
use Rattle.contract_words.specs.Faults.{◌>>=◌, refuse}
use Rattle.contract_words.specs.Sequences.{joined_each, with_before}
use Rattle.type_chunks.specs.chunk_walk.Chunk.{ChunkOf, chunk_in}
use Rattle.type_chunks.specs.chunk_walk.Chunks.{children_of}
use Rattle.type_chunks.specs.chunk_walk.declared.chunk.ChunkFault.{ChunkFault}
use Rattle.type_chunks.specs.string_pool.Pool.{PoolOf, empty_pool}
use Rattle.type_chunks.specs.type_entries.declared.fault.TableFault.{TableFault}
use Rattle.type_chunks.specs.type_entries.declared.fault.TableFault.TheVariants as faults
use Rattle.overlay_map.specs.Layout.{pool_kind, table_kind, package_kind, least_table_header}
use Rattle.type_chunks.specs.FoundChunk.{found_chunk}
use Rattle.overlay_map.specs.TablePools.{pool_of_chunk}
use Rattle.type_chunks.specs.Row.{RowOf}
use Rattle.overlay_map.specs.Package.{PackageOf, package_in, rows_of_packages}

-- A table, without where its file lies in memory.
pub record TableOf : Type 0 where
  pub packages : List PackageOf
  -- the strings that its values name
  pub strings : PoolOf

-- all rows, in the order of the file
abbrev pub rows_of : TableOf → List RowOf
rows_of table = rows_of_packages table.packages

abbrev pub is_package : Result ChunkOf ChunkFault → Bool
is_package (Ok chunk) = chunk.kind == package_kind
is_package (Err fault) = false

abbrev pub is_pool : Result ChunkOf ChunkFault → Bool
is_pool (Ok chunk) = chunk.kind == pool_kind
is_pool (Err fault) = false

-- the first pool among chunks in the order of the file
abbrev pub first_pool : List (Result ChunkOf ChunkFault) → Option (Result ChunkOf ChunkFault)
first_pool children = find is_pool children

-- A chunk in a table, with the chunks that stand before it there, of which the nearest stands first. The
-- first pool has to open. Other pools, and chunks other than packages, are passed over.
unfoldable pub packages_of_child : (List (Result ChunkOf ChunkFault) × Result ChunkOf ChunkFault) → Result (List PackageOf) TableFault
packages_of_child (before, Err fault) = Err (faults.Chunk fault)
packages_of_child (before, Ok chunk) =
    if chunk.kind == package_kind then (package_in (count_by is_package before) chunk >>= λ read. Ok (read ∷ []))
    else (if chunk.kind == pool_kind && is_none (first_pool (reverse before)) then (pool_of_chunk chunk >>= λ pool. Ok [])
    else Ok [])

-- the chunks in a table
abbrev pub packages_of_children : ChunkOf → Result (List PackageOf) TableFault
packages_of_children table = joined_each packages_of_child (with_before [] (children_of table))

-- the strings in the first pool; a table without a pool has none
abbrev pub strings_in : Option (Result ChunkOf ChunkFault) → Result PoolOf TableFault
strings_in None = Ok empty_pool
strings_in (Some (Ok chunk)) = pool_of_chunk chunk
strings_in (Some (Err fault)) = Err (faults.Chunk fault)

-- what a table's chunks say
unfoldable pub table_of_children : ChunkOf → Result TableOf TableFault
table_of_children table = do
  packages ← packages_of_children table
  strings ← strings_in (first_pool (children_of table))
  Ok (record { packages = packages; strings = strings })

-- a file: its first chunk is the table, and what follows that chunk is passed over
unfoldable pub table_in : List ℕ → Result TableOf TableFault
table_in bytes = do
  table ← found_chunk (chunk_in 0 bytes least_table_header)
  _ ← refuse (not (table.kind == table_kind)) faults.NotTable
  table_of_children table
