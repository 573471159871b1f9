-- The ids of the rows of a type, or of all rows.
use Rattle.std.specs.Prelude.{ℕ, Bool, true, List, [], map, filter, Option, Some, None}
use Rattle.std.specs.List.{flat_map, fold}
use Rattle.std.specs.BTreeSet.{insert_key}
use Rattle.std.specs.Ordering.{nat_cmp}
use Rattle.overlay_map.specs.Names.{type_name_in}
use Rattle.overlay_map.specs.Table.{TableOf, rows_of}
use Rattle.overlay_map.specs.res_value.declared.res_id.ResId.{ResId}
use Rattle.overlay_map.specs.type_chunks.Row.{RowOf}
use Rattle.names.specs.Names.{is_name}

-- a row whose type has this name; every row where no name is asked for
abbrev pub is_of_type : Option (List ℕ) → TableOf → RowOf → Bool
is_of_type None table row = true
is_of_type (Some type_name) table row = is_name (type_name_in table row) type_name

-- the ids of those among some rows of a table
abbrev pub numbers_of_type : Option (List ℕ) → TableOf → List RowOf → List ℕ
numbers_of_type type_name table rows = map (λ row. row.id) (filter (is_of_type type_name table) rows)

-- those of all rows of some tables
abbrev pub numbers_in : Option (List ℕ) → List TableOf → List ℕ
numbers_in type_name tables = flat_map (λ table. numbers_of_type type_name table (rows_of table)) tables

-- some numbers more among others in rising order: each at its place, unless it stands there already
unfoldable pub put_each : List ℕ → List ℕ → List ℕ
put_each = fold (insert_key nat_cmp)

abbrev pub id_of_number : ℕ → ResId
id_of_number number = record { 0 = number }

-- the ids of all those rows of some tables, each once, in rising order
unfoldable pub ids_of_type : Option (List ℕ) → List TableOf → List ResId
ids_of_type type_name tables =
    map id_of_number (put_each [] (numbers_in type_name tables))
