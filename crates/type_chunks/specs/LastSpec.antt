-- Which type spec a type belongs to.
use Rattle.std.specs.Prelude.{ℕ, List, [], ◌∷◌, ◌&&◌, ◌==◌, slice_index, Option, Some, None, Result, Ok, Err, if◌then◌else◌}
use Rattle.string_pool.specs.chunk_walk.Chunk.{ChunkOf}
use Rattle.string_pool.specs.chunk_walk.declared.chunk.ChunkFault.{ChunkFault}
use Rattle.type_entries.specs.declared.fault.TableFault.{TableFault}
use Rattle.type_entries.specs.declared.owner.Owner.{Owner}
use Rattle.type_entries.specs.TypeSpec.{TypeSpecOf, spec_fields}
use Rattle.type_entries.specs.TypeChunk.{TypeChunkOf, type_with}
use Rattle.type_chunks.specs.Layout.{type_spec_kind}

-- the last type spec of an id among chunks, of which the nearest stands first
unfoldable pub last_spec : ℕ → List (Result ChunkOf ChunkFault) → Option TypeSpecOf
last_spec id [] = None
last_spec id (Err fault ∷ before) = last_spec id before
last_spec id (Ok chunk ∷ before) =
    if chunk.kind == type_spec_kind && slice_index chunk.header 8 == id then Some (spec_fields chunk) else last_spec id before

-- a type belongs to the last type spec of its id among the chunks before it in its package
unfoldable pub type_in : Owner → List (Result ChunkOf ChunkFault) → ChunkOf → Result TypeChunkOf TableFault
type_in owner before chunk = type_with owner (last_spec (slice_index chunk.header 8) before) chunk
