-- What an id is called where something refers to it.
use Rattle.std.specs.Prelude.{ℕ, List, Option, Some, None, option_and_then, if◌then◌else◌}
use Rattle.overlay_map.specs.Layer.{LayerOf}
use Rattle.overlay_map.specs.BaseRow.{first_base_row}
use Rattle.overlay_map.specs.res_value.declared.res_id.ResId.{ResId}
use Rattle.names.specs.Label.{LabelOf, ById}
use Rattle.names.specs.StackLabels.{name_of_row, names_in, first_with, is_id}

-- the name of the first row that it has in a base layer
abbrev pub first_name : List LayerOf → ℕ → Option LabelOf
first_name layers id = option_and_then (λ found. name_of_row found.table found.row) (first_base_row layers id)

-- a name where it stands for the id, and else the id
abbrev pub own_label : List LayerOf → ResId → Option LabelOf → LabelOf
own_label layers id None = ById id
own_label layers id (Some name) = if is_id id (first_with (names_in layers) name) then name else ById id

-- An id is called by that name where it stands for the id, and else by itself.
unfoldable pub label_of_id : List LayerOf → ℕ → LabelOf
label_of_id layers id = own_label layers (record { 0 = id }) (first_name layers id)
