-- What is read of a list of layers item by item.
use Rattle.std.specs.Prelude.{ℕ, ◌+◌, List, map, take, Option, Some, None, option_and_then, ok_or, Result, Ok, Err, String, string_bytes, Vec}
use Rattle.std.specs.Option.{option_map}
use Rattle.std.specs.declared.alloc.Global.{Global}
use Rattle.command_base.specs.contract_words.Faults.{◌>>=◌}
use Rattle.serde_json.specs.Data.{Data}
use Rattle.command_base.specs.json_input.Each.{list_of, each}
use Rattle.json_tokens.specs.Kind.{KindOf, text_in}
use Rattle.command_base.specs.overlay_map.Layer.{most_layers}
use Rattle.command_base.specs.declared.layers_fault.LayersFault.{LayersFault}
use Rattle.command_base.specs.declared.layers_fault.LayersFault.TheVariants.{Shape}
use Rattle.command_base.specs.LayerList.{LayerPaths, layer_paths_in}
use Rattle.command_base.specs.LayerListSeen.{paths_of, all_paths_of}

-- ---- a layer

-- no path where there is no member, else its text
abbrev pub map_path_of : Option KindOf → Option (Option (List ℕ))
map_path_of None = Some None
map_path_of (Some kind) = option_map (λ path. Some path) (text_in kind)

-- the files of a layer, of which the members `table` and `map` are of these kinds
unfoldable pub layer_of_kinds : Option KindOf → Option KindOf → Option LayerPaths
layer_of_kinds table map =
    option_and_then (λ table. option_map (λ map. record { table = table; map = map }) (map_path_of map)) (option_and_then text_in table)

-- what was read of a layer; nothing where it has another shape
abbrev pub layer_seen : Option (String Global × Option (String Global)) → Result LayerPaths LayersFault
layer_seen layer = ok_or (option_map paths_of layer) Shape

-- ---- the items of a list: no more layers are kept than one too many

unfoldable pub kept_layers : List Data → Result (List LayerPaths) LayersFault
kept_layers items = each layer_paths_in items >>= λ layers. Ok (take (most_layers + 1) layers)

abbrev pub kept_list : Data → Result (List LayerPaths) LayersFault
kept_list value = ok_or (list_of value) Shape >>= kept_layers

abbrev pub kept_seen : Option (Vec (String Global × Option (String Global)) Global) → Result (List LayerPaths) LayersFault
kept_seen layers = ok_or (option_map all_paths_of layers) Shape
