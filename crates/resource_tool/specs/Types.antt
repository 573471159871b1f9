-- What types have that a device may read otherwise (AOSP: ResTable_type): flags, and configurations.
use Rattle.std.specs.Prelude.{ℕ, ◌/◌, ◌==◌, Bool, not, List, [], ◌++◌, take, drop, slice_index, Option, Some, None}
use Rattle.std.specs.List.{list_all}
use Rattle.chunk_walk.specs.Number.{number_at}
use Rattle.chunk_walk.specs.Chunk.{ChunkOf}
use Rattle.resource_tool.specs.declared.survey.finding.Finding.TheVariants.{ShortOffsets, TypeFlags, Gender, NewerQualifier}
use Rattle.resource_tool.specs.Findings.{Note, note_at_if}
use Rattle.resource_tool.specs.Entries.{type_flags, has_short_offsets, notes_of_entries}

-- flags behind the two that say where entries stand
abbrev pub has_other_flags : ChunkOf → Bool
has_other_flags chunk = not (type_flags chunk / 4 == 0)

unfoldable pub notes_of_flags : ChunkOf → List Note
notes_of_flags chunk = note_at_if (has_short_offsets chunk) ShortOffsets chunk.place ++ note_at_if (has_other_flags chunk) TypeFlags chunk.place

-- as many bytes of a configuration as its size says
abbrev pub config_sized : ChunkOf → Option ℕ → List ℕ
config_sized chunk None = []
config_sized chunk (Some size) = take size (drop 20 chunk.header)

-- The configuration of a type begins at 20 of the header with its size.
unfoldable pub config_of : ChunkOf → List ℕ
config_of chunk = config_sized chunk (number_at 4 chunk.header 20)

-- byte 19 is the grammatical gender
abbrev pub has_gender : List ℕ → Bool
has_gender config = not (slice_index config 19 == 0)

abbrev pub is_zero : List ℕ → Bool
is_zero bytes = list_all (λ byte. byte == 0) bytes

-- The fields that are read stand in the first 50 bytes.
abbrev pub has_newer : List ℕ → Bool
has_newer config = not (is_zero (drop 50 config))

unfoldable pub notes_of_config : ChunkOf → List Note
notes_of_config chunk = note_at_if (has_gender (config_of chunk)) Gender chunk.place ++ note_at_if (has_newer (config_of chunk)) NewerQualifier chunk.place

-- what a type has
unfoldable pub notes_of_type : ChunkOf → List Note
notes_of_type chunk = notes_of_flags chunk ++ (notes_of_config chunk ++ notes_of_entries chunk)
