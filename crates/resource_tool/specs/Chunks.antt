-- What the chunks of a table and of its packages have that a device may read otherwise.
use Rattle.std.specs.Prelude.{ℕ, ◌==◌, ◌||◌, List, [], Result, Ok, Err, if◌then◌else◌}
use Rattle.std.specs.List.{flat_map}
use Rattle.chunk_walk.specs.Chunk.{ChunkOf, chunk_in}
use Rattle.chunk_walk.specs.Chunks.{children_of}
use Rattle.chunk_walk.specs.declared.chunk.ChunkFault.{ChunkFault}
use Rattle.resource_tool.specs.declared.survey.finding.Finding.TheVariants.{Library, Overlayable, StagedAlias, UnknownChunk}
use Rattle.resource_tool.specs.Findings.{Note, note_of}
use Rattle.resource_tool.specs.Types.{notes_of_type}

-- A chunk in a package. Pools and type specs are known; what a type has is in it.
unfoldable pub notes_of_package_child : Result ChunkOf ChunkFault → List Note
notes_of_package_child (Err fault) = []
notes_of_package_child (Ok chunk) =
    if chunk.kind == 0x0201 then notes_of_type chunk
    else if chunk.kind == 0x0001 || chunk.kind == 0x0202 then []
    else if chunk.kind == 0x0204 then note_of Overlayable chunk.place
    else if chunk.kind == 0x0203 then note_of Library chunk.place
    else if chunk.kind == 0x0206 then note_of StagedAlias chunk.place
    else note_of UnknownChunk chunk.place

abbrev pub notes_of_package : ChunkOf → List Note
notes_of_package chunk = flat_map notes_of_package_child (children_of chunk)

-- a chunk in a table: a package, a pool, or one that is not known
unfoldable pub notes_of_child : Result ChunkOf ChunkFault → List Note
notes_of_child (Err fault) = []
notes_of_child (Ok chunk) =
    if chunk.kind == 0x0200 then notes_of_package chunk
    else if chunk.kind == 0x0001 then []
    else note_of UnknownChunk chunk.place

abbrev pub notes_of_table : ChunkOf → List Note
notes_of_table chunk = flat_map notes_of_child (children_of chunk)

abbrev pub table_kind : ℕ
table_kind = 0x0002

abbrev pub notes_of_found : Result ChunkOf ChunkFault → List Note
notes_of_found (Ok table) = if table.kind == table_kind then notes_of_table table else []
notes_of_found (Err fault) = []

-- the chunks of a file whose first chunk is a table
unfoldable pub notes_of_chunks : List ℕ → List Note
notes_of_chunks bytes = notes_of_found (chunk_in 0 bytes 12)
