-- How contracts see the first rows of ids. (Cited by contracts of this crate alone.)
use Rattle.std.specs.Prelude.{◌≡◌, ℕ, List, [], ◌∷◌, map, Option}
use Rattle.std.specs.BTreeMap.{BTreeMap, get, keys}
use Rattle.std.specs.Option.{option_map}
use Rattle.std.specs.Ordering.{nat_cmp}
use Rattle.command_base.specs.answer_text.type_chunks.Row.{RowOf, row_of}
use Rattle.command_base.specs.answer_text.type_chunks.type_entries.declared.row.Row.{Row}
use Rattle.command_base.specs.FirstRows.{rising, first_row}

-- the row of an id
abbrev pub row_at : BTreeMap ℕ Row → ℕ → Option RowOf
row_at kept id = option_map row_of (get nat_cmp kept id)

-- a row, if it is of an id
abbrev pub row_for : RowOf → ℕ → Option RowOf
row_for row id = first_row (row ∷ []) id

-- the ids are those of some rows
abbrev pub AreIdsOf : List RowOf → BTreeMap ℕ Row → Type 0
AreIdsOf rows kept = keys kept ≡ rising (map (λ row. row.id) rows)

-- for each id it is the first of these rows
abbrev pub AreFirstOf : List RowOf → BTreeMap ℕ Row → Type 0
AreFirstOf rows kept = (id : ℕ) → row_at kept id ≡ first_row rows id
