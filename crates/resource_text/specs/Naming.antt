-- What stands in answers for ids, values, layers and configurations, in Android's notation.
use Rattle.std.specs.Prelude.{ℕ, List, ◌++◌, codes, slice_get, Option, Some, None, if◌then◌else◌}
use Rattle.std.specs.List.{list_all}
use Rattle.std.specs.Char.{is_ascii_graphic}
use Rattle.res_value.specs.declared.value.Value.{Value}
use Rattle.answer_text.specs.bag_rows.declared.bag_row.BagRow.{BagRow}
use Rattle.answer_text.specs.overlay_map.Layer.{LayerOf}
use Rattle.names.specs.IdLabel.{label_of_id}
use Rattle.names.specs.LabelText.{label_text}
use Rattle.names.specs.NamedIds.{packages_of}
use Rattle.names.specs.Quoted.{quoted_text}
use Rattle.answer_text.specs.Content.{RowKeyOf, ValueContentOf}
use Rattle.answer_text.specs.declared.row_key.Keys.{Keys}
use Rattle.answer_text.specs.LayerText.{layer_text}
use Rattle.answer_text.specs.RowKeys.{row_key}
use Rattle.answer_text.specs.ValueContent.{value_content}
use Rattle.answer_text.specs.ValueNotation.{key_notation, row_notation, value_notation}

-- A stack, and the paths of the tables of its layers.
pub record NamingOf : Type 0 where
  pub stack : List LayerOf
  pub paths : List (List ℕ)

-- an id, by what it is called
unfoldable pub id_notation : NamingOf → ℕ → List ℕ
id_notation naming id = label_text (packages_of naming.stack) (label_of_id naming.stack id)

-- what a value says that a row of the layer at a place holds
unfoldable pub value_at : NamingOf → ℕ → Value → List ℕ
value_at naming layer value = value_notation (packages_of naming.stack) (value_content naming.stack layer value)

-- `KEY VALUE`
unfoldable pub key_and_value : NamingOf → RowKeyOf → ValueContentOf → List ℕ
key_and_value naming key value = key_notation (packages_of naming.stack) key ++ codes " " ++ row_notation (packages_of naming.stack) key value

-- the row of a bag at a place: what tells it from the others, and what it says
unfoldable pub row_at : NamingOf → Keys → ℕ → BagRow → List ℕ
row_at naming keys place row =
    key_and_value naming (row_key naming.stack keys place row.name.0) (value_content naming.stack row.layer row.value)

-- a path of characters of ASCII that are seen, as it is; any other between quotes, as strings are
unfoldable pub path_notation : List ℕ → List ℕ
path_notation path = if list_all is_ascii_graphic path then path else quoted_text path

abbrev pub path_or_place : Option (List ℕ) → ℕ → List ℕ
path_or_place (Some path) place = path_notation path
path_or_place None place = layer_text place

-- the layer at a place, by the path of its table; one without a path is `layer L`
unfoldable pub layer_notation : NamingOf → ℕ → List ℕ
layer_notation naming place = path_or_place (slice_get naming.paths place) place
