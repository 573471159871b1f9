-- How contracts see the paths of layers.
use Rattle.std.specs.Prelude.{ℕ, List, map, Option, String, string_bytes, Vec}
use Rattle.std.specs.Borrow.{Bor}
use Rattle.std.specs.Option.{option_map}
use Rattle.std.specs.declared.alloc.Global.{Global}
use Rattle.command_base.specs.declared.layer_list.LayerList as layer_list
use Rattle.command_base.specs.LayerList.{LayerPaths}

-- the paths of a layer
abbrev pub paths_of : (String Global × Option (String Global)) → LayerPaths
paths_of paths = record { table = string_bytes paths.0; map = option_map string_bytes paths.1 }

-- those of some layers
abbrev pub all_paths_of : Vec (String Global × Option (String Global)) Global → List LayerPaths
all_paths_of paths = map paths_of paths.items

-- those of a list of layers
abbrev pub listed : layer_list.LayerList → List LayerPaths
listed list = all_paths_of list.paths

-- ---- the paths of a layer that were lent

abbrev pub lent_paths_of : (Bor (List ℕ) × Option (Bor (List ℕ))) → LayerPaths
lent_paths_of paths = record { table = paths.0.now; map = option_map (λ text. text.now) paths.1 }
