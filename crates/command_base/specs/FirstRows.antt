-- The first row of each id.
use Rattle.std.specs.Prelude.{ℕ, List, [], map, find, ◌==◌, Option}
use Rattle.std.specs.List.{fold, filter_map}
use Rattle.std.specs.Ordering.{nat_cmp}
use Rattle.std.specs.BTreeSet.{insert_key}
use Rattle.command_base.specs.answer_text.type_chunks.Row.{RowOf}

-- the numbers in rising order, each once
abbrev pub rising : List ℕ → List ℕ
rising numbers = fold (insert_key nat_cmp) [] numbers

-- the first of some rows that is of an id
abbrev pub first_row : List RowOf → ℕ → Option RowOf
first_row rows id = find (λ row. row.id == id) rows

-- the first row of each id, in the order of the ids
abbrev pub first_rows : List RowOf → List RowOf
first_rows rows = filter_map (first_row rows) (rising (map (λ row. row.id) rows))
