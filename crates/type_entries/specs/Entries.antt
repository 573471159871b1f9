-- The entries of a type, each read by itself.
use Rattle.std.specs.Prelude.{◌≡◌, ℕ, ◌+◌, ◌-◌, ◌<◌, ◌≤◌, not, true, List, [], length, Result, Ok, Err, IsOk, if◌then◌else◌}
use Rattle.std.specs.List.{range_with_len, flat_map}
use Rattle.contract_words.specs.Faults.{◌>>=◌, refuse}
use Rattle.contract_words.specs.Sequences.{joined_from}
use Rattle.string_pool.specs.chunk_walk.Number.{number}
use Rattle.type_entries.specs.declared.fault.TableFault.{TableFault}
use Rattle.type_entries.specs.declared.fault.TableFault.TheVariants as faults
use Rattle.res_value.specs.Cell.{CellOf}
use Rattle.type_entries.specs.Layout.{least_entry, least_entry_size}
use Rattle.type_entries.specs.Row.{RowOf}
use Rattle.type_entries.specs.TypeChunk.{TypeChunkOf}
use Rattle.type_entries.specs.EntryOffsets.{is_empty, indexes_rise}
use Rattle.type_entries.specs.Entry.{is_complex, value_of_entry, bag_of_entry, rows_of_entry}

-- no entry is from one position on and below another
abbrev pub AreEmpty : TypeChunkOf → ℕ → ℕ → Type 0
AreEmpty chunk from behind = (position : ℕ) → from ≤ position → position < behind → is_empty chunk position ≡ true

-- the entries at the positions below one have no fault
abbrev pub AreRead : TypeChunkOf → ℕ → Type 0
AreRead chunk behind = (position : ℕ) → position < behind → IsOk (rows_of_entry chunk position)

-- the indexes of a type rise, and no entry has a fault
pub record IsChecked (chunk : TypeChunkOf) : Type 0 where
  pub rise : indexes_rise chunk ≡ true
  pub read : AreRead chunk chunk.offset_count

-- The rows of the entries of a type, in the order of its entry offsets. That the indexes rise is checked before the first
-- entry.
abbrev pub rows_of_entries : TypeChunkOf → Result (List RowOf) TableFault
rows_of_entries chunk = do
  _ ← refuse (not (indexes_rise chunk)) (faults.Offsets chunk.place)
  joined_from (rows_of_entry chunk) 0 chunk.offset_count

-- what was read; nothing where there is a fault
abbrev pub or_none : Result (List RowOf) TableFault → List RowOf
or_none (Ok rows) = rows
or_none (Err fault) = []

-- the row of the entry at a position, or none
unfoldable pub row_at_position : TypeChunkOf → ℕ → List RowOf
row_at_position chunk position = or_none (rows_of_entry chunk position)

-- the rows of the entries from a position on
unfoldable pub rows_from : TypeChunkOf → ℕ → List RowOf
rows_from chunk position = flat_map (row_at_position chunk) (range_with_len position (chunk.offset_count - position))

-- what the entry at a place holds, which has room for its size
unfoldable pub held_at : TypeChunkOf → ℕ → Result CellOf TableFault
held_at chunk at =
    let behind = at + number 2 chunk.whole at in
    if is_complex chunk at then bag_of_entry chunk at behind else value_of_entry chunk at behind

-- at a place from the chunk's start stands an entry that fits, and what it holds has no fault
pub record HasEntry (chunk : TypeChunkOf) (at : ℕ) : Type 0 where
  pub fields : at + least_entry ≤ length chunk.whole
  pub size : least_entry_size (is_complex chunk at) ≤ number 2 chunk.whole at
  pub fits : at + number 2 chunk.whole at ≤ length chunk.whole
  pub holds : IsOk (held_at chunk at)
