-- Types of a package that are found anew where they stand. `rows_of_kept` sees the rows of a package by this.
use Rattle.std.specs.Prelude.{◌≡◌, ℕ, ◌-◌, ◌<◌, ◌≤◌, ◌^◌, List, [], length, Some, Result, Ok, Err, IsOk, All}
use Rattle.std.specs.Result.{ForOk}
use Rattle.std.specs.List.{flat_map}
use Rattle.contract_words.specs.Faults.{◌>>=◌}
use Rattle.string_pool.specs.chunk_walk.Chunk.{ChunkOf, chunk_within}
use Rattle.type_entries.specs.declared.fault.TableFault.{TableFault}
use Rattle.type_entries.specs.declared.owner.Owner.{Owner}
use Rattle.type_entries.specs.declared.type_spec.TypeSpec.{TypeSpec}
use Rattle.type_entries.specs.Row.{RowOf}
use Rattle.type_entries.specs.TypeSpec.{TypeSpecOf, type_spec_of, type_spec_in}
use Rattle.type_entries.specs.TypeChunk.{TypeChunkOf, type_with}
use Rattle.type_entries.specs.Entries.{IsChecked, rows_from}
use Rattle.type_chunks.specs.declared.type_place.TypePlace.{TypePlace}
use Rattle.type_chunks.specs.FoundChunk.{found_chunk}

-- the type spec at a place of a package, counted from its start
abbrev pub spec_at : ChunkOf → ℕ → Result TypeSpecOf TableFault
spec_at within at = found_chunk (chunk_within within at) >>= type_spec_in

-- a type spec stands in a package where its place says
pub record SpecStands (within : ChunkOf) (spec : TypeSpec) : Type 0 where
  pub behind : within.place ≤ spec.place
  pub inside : spec.place - within.place ≤ length within.whole
  pub found : spec_at within (spec.place - within.place) ≡ Ok (type_spec_of spec)

-- the type at a place of a package
abbrev pub type_at : Owner → ChunkOf → TypePlace → Result TypeChunkOf TableFault
type_at owner within place = do
  chunk ← found_chunk (chunk_within within place.chunk)
  spec ← spec_at within place.spec
  type_with owner (Some spec) chunk

-- at a place stands a type without a fault
abbrev pub IsKept : Owner → ChunkOf → TypePlace → Type 0
IsKept owner within place =
    (place.chunk ≤ length within.whole) × (place.spec ≤ length within.whole) × IsOk (type_at owner within place)
    × ForOk (type_at owner within place) (λ chunk. (chunk.offset_count < 2 ^ 32) × IsChecked chunk)

abbrev pub AreKept : Owner → ChunkOf → List TypePlace → Type 0
AreKept owner within places = All (IsKept owner within) places

-- the rows of a type; none where it has a fault
abbrev pub rows_of_read : Result TypeChunkOf TableFault → List RowOf
rows_of_read (Ok chunk) = rows_from chunk 0
rows_of_read (Err fault) = []

-- the rows of the type at a place
unfoldable pub rows_at : Owner → ChunkOf → TypePlace → List RowOf
rows_at owner within place = rows_of_read (type_at owner within place)

-- the rows of the types at these places, one type after the other
unfoldable pub rows_of_places : Owner → ChunkOf → List TypePlace → List RowOf
rows_of_places owner within places = flat_map (rows_at owner within) places
