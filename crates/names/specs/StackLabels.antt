-- What the resources of a stack are called. The base layers give the names: overlays give none.
use Rattle.std.specs.Prelude.{ℕ, Bool, false, ◌==◌, not, List, [], ◌∷◌, ◌++◌, map, find, filter, Option, Some, None}
use Rattle.std.specs.List.{flat_map, list_any}
use Rattle.std.specs.Option.{option_map, option_map_or}
use Rattle.names.specs.IdsOfType.{id_of_number, ids_of_type}
use Rattle.names.specs.NameText.{name_text}
use Rattle.overlay_map.specs.Layer.{LayerOf, base_tables}
use Rattle.overlay_map.specs.res_value.ResId.{package_of}
use Rattle.overlay_map.specs.res_value.declared.res_id.ResId.{ResId}
use Rattle.overlay_map.specs.Names.{type_name_in, key_name_in}
use Rattle.overlay_map.specs.Table.{TableOf, rows_of}
use Rattle.overlay_map.specs.type_chunks.Row.{RowOf}
use Rattle.names.specs.Label.{LabelOf, ByName, ById, is_same}

-- A label, with an id that is called so.
pub record Labelled : Type 0 where
  pub label : LabelOf
  pub id : ResId

abbrev pub called : ResId → LabelOf → Labelled
called id label = record { label = label; id = id }

-- the id of the first that has a label: a label stands for this one
abbrev pub first_with : List Labelled → LabelOf → Option ResId
first_with all label = option_map (λ one. one.id) (find (λ one. is_same label one.label) all)

-- ---- names

-- the name of these two parts in a package, where both are text
abbrev pub name_of_parts : ℕ → Option (List ℕ) → Option (List ℕ) → Option LabelOf
name_of_parts package_id (Some type_name) (Some entry_name) = Some (ByName (record { package_id = package_id; type_name = type_name; entry_name = entry_name }))
name_of_parts package_id (Some type_name) None = None
name_of_parts package_id None entry_name = None

unfoldable pub name_of_row : TableOf → RowOf → Option LabelOf
name_of_row table row = name_of_parts (package_of (id_of_number row.id)) (name_text (type_name_in table row)) (name_text (key_name_in table row))

-- a row's id with its name, where it has one
abbrev pub named : RowOf → Option LabelOf → List Labelled
named row None = []
named row (Some label) = called (id_of_number row.id) label ∷ []

abbrev pub named_rows : TableOf → List Labelled
named_rows table = flat_map (λ row. named row (name_of_row table row)) (rows_of table)

-- those of all rows of the base layers, in their order
unfoldable pub names_in : List LayerOf → List Labelled
names_in layers = flat_map named_rows (base_tables layers)

-- ---- ids for which no name stands

abbrev pub is_id : ResId → Option ResId → Bool
is_id id found = option_map_or (λ other. other.0 == id.0) found false

-- whether one of these labels stands for the id
abbrev pub stands_for : List Labelled → ResId → Bool
stands_for all id = list_any (λ one. is_id id (first_with all one.label)) all

-- the ids of rows that have no name, or whose names stand for others
abbrev pub nameless : List LayerOf → List ResId
nameless layers = filter (λ id. not (stands_for (names_in layers) id)) (ids_of_type None (base_tables layers))

abbrev pub by_id : ResId → Labelled
by_id id = called id (ById id)

-- ---- all labels

-- each resource has one: its name, or its id where no name stands for that
unfoldable pub labelled : List LayerOf → List Labelled
labelled layers = names_in layers ++ map by_id (nameless layers)

abbrev pub labels_of : List Labelled → List LabelOf
labels_of all = map (λ one. one.label) all
