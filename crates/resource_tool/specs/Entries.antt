-- What entries have that a device may read otherwise (AOSP: ResTable_entry). They are found as newer devices
-- find them, by offsets of 16 bits too.
use Rattle.std.specs.Prelude.{ℕ, ◌+◌, ◌*◌, ◌/◌, ◌%◌, ◌==◌, Bool, ◌&&◌, not, List, [], ◌++◌, slice_index, Option, Some, None, if◌then◌else◌}
use Rattle.std.specs.List.{range_with_len, flat_map}
use Rattle.std.specs.Option.{option_and_then, option_map, unwrap_or}
use Rattle.chunk_walk.specs.Number.{number_at}
use Rattle.chunk_walk.specs.Chunk.{ChunkOf}
use Rattle.resource_tool.specs.declared.survey.finding.Finding.TheVariants.{CompactEntry, EntryFlags}
use Rattle.resource_tool.specs.Findings.{Note, note_at_if}

-- the flags of a type, at 9
abbrev pub type_flags : ChunkOf → ℕ
type_flags chunk = slice_index chunk.header 9

abbrev pub is_sparse : ChunkOf → Bool
is_sparse chunk = type_flags chunk % 2 == 1

abbrev pub has_short_offsets : ChunkOf → Bool
has_short_offsets chunk = type_flags chunk / 2 % 2 == 1

-- a number, where it is not the one that says that there is none
abbrev pub unless : ℕ → Option ℕ → Option ℕ
unless none found = option_and_then (λ n. if n == none then None else Some n) found

-- offsets that count words of four bytes
abbrev pub in_words : Option ℕ → Option ℕ
in_words found = option_map (λ n. 4 * n) found

-- How many bytes behind the start of the entries the entry at a position stands. A sparse type has pairs, of an
-- index and an offset in words.
unfoldable pub offset_at : ChunkOf → ℕ → Option ℕ
offset_at chunk position =
    if is_sparse chunk then in_words (number_at 2 chunk.body (4 * position + 2))
    else if has_short_offsets chunk then in_words (unless 0xffff (number_at 2 chunk.body (2 * position)))
    else unless 0xffffffff (number_at 4 chunk.body (4 * position))

-- The flags of the entry at a position, where there is one. Where the entries start stands at 16 of the header, and
-- the flags of an entry at 2.
abbrev pub entry_flags : ChunkOf → ℕ → Option ℕ
entry_flags chunk position =
    option_and_then (λ start. option_and_then (λ offset. number_at 2 chunk.whole (start + offset + 2)) (offset_at chunk position)) (number_at 4 chunk.header 16)

abbrev pub is_compact : ℕ → Bool
is_compact flags = flags / 8 % 2 == 1

-- Of an entry that is not compact: flags behind those that say that it holds a bag, is public, weak or compact.
abbrev pub has_other_flags : ℕ → Bool
has_other_flags flags = not (is_compact flags) && not (flags / 16 == 0)

abbrev pub notes_of_entry_flags : ℕ → Option ℕ → List Note
notes_of_entry_flags place None = []
notes_of_entry_flags place (Some flags) = note_at_if (is_compact flags) CompactEntry place ++ note_at_if (has_other_flags flags) EntryFlags place

-- what the entry at a position has, at the place of its type
unfoldable pub notes_of_entry : ChunkOf → ℕ → List Note
notes_of_entry chunk position = notes_of_entry_flags chunk.place (entry_flags chunk position)

-- how many offsets a type has, at 12 of the header
abbrev pub offset_count : ChunkOf → ℕ
offset_count chunk = unwrap_or (number_at 4 chunk.header 12) 0

unfoldable pub notes_of_entries : ChunkOf → List Note
notes_of_entries chunk = flat_map (notes_of_entry chunk) (range_with_len 0 (offset_count chunk))
