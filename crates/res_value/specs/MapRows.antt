-- The rows of a bag (AOSP: ResTable_map): a name, which is an id, and a value.
use Rattle.std.specs.Prelude.{ℕ, zero, suc, ◌+◌, ◌*◌, not, Bool, List, [], ◌∷◌, length, drop, Option, Some, None, Result, Ok, Err, nat_lt, find, if◌then◌else◌}
use Rattle.std.specs.List.{range_with_len}
use Rattle.chunk_walk.specs.Number.{number}
use Rattle.res_value.specs.declared.res_id.ResId.{ResId}
use Rattle.res_value.specs.declared.value.Value.{Value}
use Rattle.res_value.specs.declared.map_rows.MapRows.{MapRows}
use Rattle.res_value.specs.declared.map_rows.MapRowsFault.{MapRowsFault}
use Rattle.res_value.specs.declared.map_rows.MapRowsFault.TheVariants.{Short, ValueSize}
use Rattle.res_value.specs.Layout.{row_name_size, row_size}
use Rattle.res_value.specs.Value.{has_value_size, value_at}

-- so many rows, one behind the other, each its name and its value
unfoldable pub map_rows_at : ℕ → List ℕ → List (ResId × Value)
map_rows_at zero bytes = []
map_rows_at (suc count) bytes = (record { 0 = number 4 bytes 0 }, value_at (drop row_name_size bytes)) ∷ map_rows_at count (drop row_size bytes)

-- the rows that are left
abbrev pub map_rows_of : MapRows → List (ResId × Value)
map_rows_of rows = map_rows_at rows.count rows.left.now

-- where the value of the row of an index stands, from the start of the rows
abbrev pub value_place : ℕ → ℕ
value_place index = row_size * index + row_name_size

-- whether the value of the row of this index, counted from 0, has another size than a value has
unfoldable pub has_wrong_size : List ℕ → ℕ → Bool
has_wrong_size bytes index = not (has_value_size (drop (value_place index) bytes))

-- the rows, if none of them has a value of another size
abbrev pub unless_wrong : ℕ → List ℕ → Option ℕ → Result (List (ResId × Value)) MapRowsFault
unless_wrong count bytes None = Ok (map_rows_at count bytes)
unless_wrong count bytes (Some index) = Err (ValueSize index)

-- So many rows at the front of some bytes, if all of them fit and each value has its size. That they fit
-- is checked before the first value.
unfoldable pub map_rows_in : ℕ → List ℕ → Result (List (ResId × Value)) MapRowsFault
map_rows_in count bytes =
    if nat_lt (length bytes) (row_size * count) then Err Short
    else unless_wrong count bytes (find (has_wrong_size bytes) (range_with_len 0 count))

-- how contracts see what a call returned: by its content, not its address
abbrev pub seen_rows : Result MapRows MapRowsFault → Result (List (ResId × Value)) MapRowsFault
seen_rows (Ok rows) = Ok (map_rows_of rows)
seen_rows (Err fault) = Err fault
