-- Lists of layers: which files the layers of a stack are.
use Rattle.std.specs.Prelude.{ℕ, List, [], ◌∷◌, codes, length, nat_lt, not, Option, Some, None, option_and_then, ok_or, Result, Ok}
use Rattle.std.specs.Option.{option_map}
use Rattle.command_base.specs.contract_words.Faults.{◌>>=◌, refuse}
use Rattle.serde_json.specs.Data.{Data}
use Rattle.serde_json.specs.Find.{get}
use Rattle.command_base.specs.json_input.Each.{list_of, each}
use Rattle.command_base.specs.json_input.Json.{value_of}
use Rattle.command_base.specs.json_input.Shape.{has_only, text_of}
use Rattle.command_base.specs.overlay_map.Layer.{most_layers}
use Rattle.command_base.specs.declared.layers_fault.LayersFault.{LayersFault}
use Rattle.command_base.specs.declared.layers_fault.LayersFault.TheVariants.{Syntax, Shape, TooManyLayers}

-- the files of a layer: that of its table and, at an overlay, that of its id map
pub record LayerPaths : Type 0 where
  pub table : List ℕ
  -- none at a base
  pub map : Option (List ℕ)

-- ---- one layer

-- the text at `table`
unfoldable pub table_path : Data → Result (List ℕ) LayersFault
table_path value = ok_or (option_and_then text_of (get (codes "table") value)) Shape

-- no path where there is no member, else its text
abbrev pub path_or_none : Option Data → Result (Option (List ℕ)) LayersFault
path_or_none None = Ok None
path_or_none (Some value) = ok_or (option_map (λ path. Some path) (text_of value)) Shape

-- the text at `map`, where there is such a member
unfoldable pub map_path : Data → Result (Option (List ℕ)) LayersFault
map_path value = path_or_none (get (codes "map") value)

-- an object with the path of a table and perhaps that of an id map, and with no other member
unfoldable pub layer_paths_in : Data → Result LayerPaths LayersFault
layer_paths_in value = do
  _ ← refuse (not (has_only (codes "table" ∷ codes "map" ∷ []) value)) Shape
  table ← table_path value
  map ← map_path value
  Ok (record { table = table; map = map })

-- ---- all layers

-- A list, and each of its items is a layer. Then it has no more than 64.
unfoldable pub layers_in_value : Data → Result (List LayerPaths) LayersFault
layers_in_value value = do
  items ← ok_or (list_of value) Shape
  layers ← each layer_paths_in items
  _ ← refuse (nat_lt most_layers (length layers)) TooManyLayers
  Ok layers

-- the layers that bytes mean, or the first fault
abbrev pub layers_in : List ℕ → Result (List LayerPaths) LayersFault
layers_in bytes = ok_or (value_of bytes) Syntax >>= layers_in_value
