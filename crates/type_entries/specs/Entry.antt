-- Entries (AOSP: ResTable_entry, ResTable_map_entry), each no row, one row or a fault.
use Rattle.std.specs.Prelude.{ℕ, ◌+◌, ◌*◌, ◌%◌, Bool, ◌&&◌, not, List, [], ◌∷◌, ◌==◌, length, drop, Result, Ok, Err, Option, Some, None, nat_lt, if◌then◌else◌}
use Rattle.contract_words.specs.Faults.{◌>>=◌, refuse}
use Rattle.string_pool.specs.chunk_walk.Number.{number}
use Rattle.res_value.specs.ResId.{id_of_parts}
use Rattle.res_value.specs.Layout.{value_size}
use Rattle.res_value.specs.Value.{has_value_size, value_at}
use Rattle.res_value.specs.MapRows.{map_rows_in, value_place}
use Rattle.res_value.specs.Cell.{CellOf, PlainOf, BagOf}
use Rattle.res_value.specs.declared.map_rows.MapRowsFault.{MapRowsFault}
use Rattle.res_value.specs.declared.map_rows.MapRowsFault.TheVariants.{Short, ValueSize}
use Rattle.res_value.specs.declared.res_id.ResId.{ResId}
use Rattle.res_value.specs.declared.value.Value.{Value}
use Rattle.res_value.specs.declared.cell.Cell.{Cell}
use Rattle.res_value.specs.Cell.{cell_of}
use Rattle.type_entries.specs.declared.fault.TableFault.{TableFault}
use Rattle.type_entries.specs.declared.fault.TableFault.TheVariants as faults
use Rattle.type_entries.specs.declared.row.Row.{Row}
use Rattle.type_entries.specs.Row.{RowOf, row_of}
use Rattle.type_entries.specs.TypeChunk.{TypeChunkOf}
use Rattle.type_entries.specs.EntryOffsets.{index_of, is_empty, offset_of}
use Rattle.type_entries.specs.Layout.{entry_flags_size, least_entry, least_entry_size, indexes}

-- an entry of this index is a row: its type spec counts it, and an id has room for it
abbrev pub is_row : TypeChunkOf → ℕ → Bool
is_row chunk index = nat_lt index chunk.spec.entry_count && nat_lt index indexes

-- ---- what an entry holds; `behind` is the place behind its size, from the chunk's start

-- a value: first that it fits, then its size
unfoldable pub value_of_entry : TypeChunkOf → ℕ → ℕ → Result CellOf TableFault
value_of_entry chunk at behind = do
  _ ← refuse (nat_lt (length chunk.whole) (behind + value_size)) (faults.Entry (chunk.place + at))
  _ ← refuse (not (has_value_size (drop behind chunk.whole))) (faults.Value (chunk.place + behind))
  Ok (PlainOf (value_at (drop behind chunk.whole)))

-- the rows that were read, or their fault
abbrev pub bag_of_rows : TypeChunkOf → ℕ → ℕ → Result (List (ResId × Value)) MapRowsFault → Result CellOf TableFault
bag_of_rows chunk at behind (Ok rows) = Ok (BagOf (record { 0 = number 4 chunk.whole (at + 8) }) rows)
bag_of_rows chunk at behind (Err Short) = Err (faults.Entry (chunk.place + at))
bag_of_rows chunk at behind (Err (ValueSize index)) = Err (faults.Value (chunk.place + (behind + value_place index)))

-- a bag: its parent at 8, the count of its rows at 12
unfoldable pub bag_of_entry : TypeChunkOf → ℕ → ℕ → Result CellOf TableFault
bag_of_entry chunk at behind =
    bag_of_rows chunk at behind (map_rows_in (number 4 chunk.whole (at + 12)) (drop behind chunk.whole))

-- ---- an entry

-- the row of the entry of an index, which stands at a place from the chunk's start and holds a cell
abbrev pub row_of_entry : TypeChunkOf → ℕ → ℕ → CellOf → RowOf
row_of_entry chunk index at cell = record {
  id = id_of_parts chunk.owner.id chunk.id index;
  config = chunk.config;
  cell = cell;
  flags = number 4 chunk.spec.flags (entry_flags_size * index);
  key = number 4 chunk.whole (at + 4);
  in_package = chunk.owner.index;
}

-- an entry whose lowest bit of flags is set holds a bag
abbrev pub is_complex : TypeChunkOf → ℕ → Bool
is_complex chunk at = number 2 chunk.whole (at + 2) % 2 == 1

-- The entry at a place: its size at 0, its flags at 2, its key at 4, and what it holds behind its size.
-- An entry that is no row is checked all the same.
unfoldable pub rows_of_entry_at : TypeChunkOf → ℕ → ℕ → Result (List RowOf) TableFault
rows_of_entry_at chunk index at = do
  _ ← refuse (not (at % 4 == 0)) (faults.Entry (chunk.place + at))
  _ ← refuse (nat_lt (length chunk.whole) (at + least_entry)) (faults.Entry (chunk.place + at))
  let size = number 2 chunk.whole at
  _ ← refuse (nat_lt size (least_entry_size (is_complex chunk at))) (faults.Entry (chunk.place + at))
  _ ← refuse (nat_lt (length chunk.whole) (at + size)) (faults.Entry (chunk.place + at))
  cell ← (if is_complex chunk at then bag_of_entry chunk at (at + size) else value_of_entry chunk at (at + size))
  Ok (if is_row chunk index then row_of_entry chunk index at cell ∷ [] else [])

-- The entry at a position. Its offset counts from where the entries start, and that from the chunk's start.
unfoldable pub rows_of_entry : TypeChunkOf → ℕ → Result (List RowOf) TableFault
rows_of_entry chunk position =
    if is_empty chunk position then Ok [] else rows_of_entry_at chunk (index_of chunk position) (chunk.entries_start + offset_of chunk position)

-- how contracts see what a call returned: a row or none is a list, and a cell has no place in memory
abbrev pub seen_entry : Result (Option Row) TableFault → Result (List RowOf) TableFault
seen_entry (Ok None) = Ok []
seen_entry (Ok (Some row)) = Ok (row_of row ∷ [])
seen_entry (Err fault) = Err fault

abbrev pub seen_cell : Result Cell TableFault → Result CellOf TableFault
seen_cell (Ok cell) = Ok (cell_of cell)
seen_cell (Err fault) = Err fault
