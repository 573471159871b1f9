-- What of a table's chunks can make an answer differ from a device's.
use Rattle.std.specs.Prelude.{ℕ, ◌==◌, ◌||◌, not, Bool, false, List, Option, Some, None, Result, Ok, Err, if◌then◌else◌}
use Rattle.std.specs.List.{list_any, range_with_len}
use Rattle.chunk_walk.specs.Chunk.{ChunkOf, chunk_in}
use Rattle.chunk_walk.specs.Chunks.{children_of}
use Rattle.chunk_walk.specs.declared.chunk.ChunkFault.{ChunkFault}
use Rattle.resource_tool.specs.Chunks.{table_kind}
use Rattle.resource_tool.specs.Entries.{has_short_offsets, entry_flags, offset_count, is_compact}
use Rattle.resource_tool.specs.Entries as entries
use Rattle.resource_tool.specs.Types.{config_of, has_gender, has_newer}
use Rattle.resource_tool.specs.Types as types

abbrev pub flags_differ : Option ℕ → Bool
flags_differ None = false
flags_differ (Some flags) = is_compact flags || entries.has_other_flags flags

-- an entry that is compact, or has flags that are not known
unfoldable pub entry_differs : ChunkOf → ℕ → Bool
entry_differs chunk position = flags_differ (entry_flags chunk position)

-- a record with a gender, or with more than Android 8.1 knows
abbrev pub record_differs : List ℕ → Bool
record_differs config = has_gender config || has_newer config

-- a type with offsets of 16 bits or with flags that are not known; or its record does, or one of its entries
unfoldable pub type_differs : ChunkOf → Bool
type_differs chunk =
    (has_short_offsets chunk || types.has_other_flags chunk)
    || (record_differs (config_of chunk) || list_any (entry_differs chunk) (range_with_len 0 (offset_count chunk)))

-- in a package, each chunk but a type that does not, a pool, a type spec, and one that says what may be overlaid
unfoldable pub package_child_differs : Result ChunkOf ChunkFault → Bool
package_child_differs (Err fault) = false
package_child_differs (Ok chunk) =
    if chunk.kind == 0x0201 then type_differs chunk
    else not ((chunk.kind == 0x0001 || chunk.kind == 0x0202) || chunk.kind == 0x0204)

-- in a table, each chunk but a package in which none does, and a pool
unfoldable pub child_differs : Result ChunkOf ChunkFault → Bool
child_differs (Err fault) = false
child_differs (Ok chunk) =
    if chunk.kind == 0x0200 then list_any package_child_differs (children_of chunk)
    else not (chunk.kind == 0x0001)

abbrev pub found_differs : Result ChunkOf ChunkFault → Bool
found_differs (Ok table) = if table.kind == table_kind then list_any child_differs (children_of table) else false
found_differs (Err fault) = false

-- a file whose first chunk is a table in which some chunk does
unfoldable pub table_differs : List ℕ → Bool
table_differs bytes = found_differs (chunk_in 0 bytes 12)
