-- What the code keeps of the type specs of a package on its way through it. Contracts within the
-- crate alone speak of this.
use Rattle.std.specs.Prelude.{◌≡◌, ℕ, ◌<◌, List, Option, None, Result, IfSome, slice_index_or}
use Rattle.std.specs.Option.{option_map}
use Rattle.string_pool.specs.chunk_walk.Chunk.{ChunkOf}
use Rattle.string_pool.specs.chunk_walk.declared.chunk.ChunkFault.{ChunkFault}
use Rattle.type_entries.specs.declared.type_spec.TypeSpec.{TypeSpec}
use Rattle.type_entries.specs.TypeSpec.{TypeSpecOf, type_spec_of}
use Rattle.type_chunks.specs.declared.known_specs.KnownSpecs.{KnownSpecs}
use Rattle.type_chunks.specs.LastSpec.{last_spec}
use Rattle.type_chunks.specs.TypePlaces.{SpecStands}

-- what is kept for an id
abbrev pub kept_for : KnownSpecs → ℕ → Option TypeSpec
kept_for specs id = slice_index_or specs.by_id id None

-- the type spec that is kept for an id
abbrev pub kept_spec : KnownSpecs → ℕ → Option TypeSpecOf
kept_spec specs id = option_map type_spec_of (kept_for specs id)

-- For each id the last type spec of it among these chunks is kept, of which the nearest stands first.
pub record Knows (specs : KnownSpecs) (before : List (Result ChunkOf ChunkFault)) : Type 0 where
  pub last : (id : ℕ) → id < 256 → kept_spec specs id ≡ last_spec id before

-- each type spec that is kept stands in the package
abbrev pub SpecsStand : ChunkOf → KnownSpecs → Type 0
SpecsStand within specs = (id : ℕ) → id < 256 → IfSome (kept_for specs id) (SpecStands within)
