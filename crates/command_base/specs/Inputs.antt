-- What is read, and in which order.
use Rattle.std.specs.Prelude.{ℕ, List, [], ◌∷◌, ◌++◌, map, length, nat_lt, slice_get, codes, Option, Some, None, Result, Ok, Err, if◌then◌else◌}
use Rattle.std.specs.List.{enumerate_from}
use Rattle.std.specs.Str.{bytes_eq}
use Rattle.apk_member.specs.declared.fault.ApkFault.{ApkFault}
use Rattle.apk_member.specs.TableFile.{table_in_file}
use Rattle.std.specs.Option.{option_map_or}
use Rattle.contract_words.specs.Faults.{◌>>=◌, refuse}
use Rattle.json_input.specs.Each.{each}
use Rattle.command_base.specs.ToolFault.{fault_of_layers}
use Rattle.command_base.specs.declared.fault.ToolFault.{ToolFault}
use Rattle.command_base.specs.declared.fault.ToolFault.TheVariants as faults
use Rattle.command_base.specs.declared.side.Side.{Side}
use Rattle.command_base.specs.LayerList.{LayerPaths, layers_in}
use Rattle.command_base.specs.ListWord.{ListedLayer, is_list_word, layers_in_word}
use Rattle.command_base.specs.MadeMap.{made_map}
use Rattle.command_base.specs.MapText.{map_text}
use Rattle.command_base.specs.overlay_map.Layer.{most_layers}
use Rattle.command_base.specs.declared.layers_fault.LayersFault.{LayersFault}
use Rattle.command_base.specs.declared.layers_fault.LayersFault.TheVariants.{TooManyLayers}
use Rattle.command_base.specs.StackBytes.{LayerBytes, table_of_layer}
use Rattle.command_base.specs.declared.input.InputFault.{InputFault}
use Rattle.command_base.specs.declared.input.InputFault.TheVariants.{Read, TooLarge, OutOfMemory}
use Rattle.command_base.specs.Stop.{StopOf, file, layer_file, tool, stop_on_side}
use Rattle.command_base.specs.Place.{PlaceOf, standard_input, at_path}

-- how many bytes an input has at most
abbrev pub most_bytes : ℕ
most_bytes = 268435456

-- what each place has: bytes, or why they are not read
abbrev pub Places : Type 0
Places = PlaceOf → Result (List ℕ) InputFault

-- a table lies at its path, or where that is `-` on the standard input
abbrev pub table_place : List ℕ → PlaceOf
table_place path = if bytes_eq path (codes "-") then standard_input else at_path path

-- why the program stops where an input is not read: as `unread` says, which names its path, or for want of memory
abbrev pub stop_at : StopOf → InputFault → StopOf
stop_at unread Read = unread
stop_at unread TooLarge = unread
stop_at unread OutOfMemory = tool faults.OutOfMemory

abbrev pub or_stop : {X E : Type 0} → (E → StopOf) → Result X E → Result X StopOf
or_stop stop (Ok x) = Ok x
or_stop stop (Err fault) = Err (stop fault)

-- the table that the file at a path has, whose bytes these are; the fault of an apk is told as that of a part
abbrev pub table_within : (ApkFault → ToolFault) → List ℕ → List ℕ → Result (List ℕ) StopOf
table_within fault_of path bytes = or_stop (λ fault. tool (fault_of fault)) (table_in_file path bytes)

unfoldable pub table_at : (ApkFault → ToolFault) → Places → List ℕ → Result (List ℕ) StopOf
table_at fault_of places path = do
  bytes ← or_stop (stop_at (file path)) (places (table_place path))
  table_within fault_of path bytes

-- the table that a command reads alone
abbrev pub table_of : Places → List ℕ → Result (List ℕ) StopOf
table_of places path = table_at faults.Apk places path

-- the same of one of two, which are layers 0 and 1
abbrev pub layer_table_of : ℕ → Places → List ℕ → Result (List ℕ) StopOf
layer_table_of layer places path = table_at (faults.LayerApk layer) places path

abbrev pub file_of : Places → List ℕ → Result (List ℕ) StopOf
file_of places path = or_stop (stop_at (file path)) (places (at_path path))

-- the same of a path that a list of layers names
abbrev pub layer_file_of : Places → List ℕ → Result (List ℕ) StopOf
layer_file_of places path = or_stop (stop_at (layer_file path)) (places (at_path path))

-- the table of the layer at a place, whose path a list of layers names
unfoldable pub listed_table_of : ℕ → Places → List ℕ → Result (List ℕ) StopOf
listed_table_of layer places path = do
  bytes ← layer_file_of places path
  table_within (faults.LayerApk layer) path bytes

-- what is read at a path, where one is given
abbrev pub where_given : (List ℕ → Result (List ℕ) StopOf) → Option (List ℕ) → Result (Option (List ℕ)) StopOf
where_given read None = Ok None
where_given read (Some path) = read path >>= λ bytes. Ok (Some bytes)

-- what is read of a base for its overlay
abbrev pub where_overlay : (ℕ → Result (List ℕ) ToolFault) → Option ℕ → Result (Option (List ℕ)) StopOf
where_overlay read None = Ok None
where_overlay read (Some base) = or_stop (λ fault. tool fault) (read base) >>= λ bytes. Ok (Some bytes)

-- the layer at a place: its table and then its id map
unfoldable pub layer_of : Places → (ℕ × LayerPaths) → Result LayerBytes StopOf
layer_of places (place, paths) = do
  table ← listed_table_of place places paths.table
  map ← where_given (layer_file_of places) paths.map
  Ok (record { table = table; map = map })

-- the layers that a list names: first the list, and then the files of each layer in turn
unfoldable pub layers_in_file : Places → List ℕ → Result (List LayerBytes) StopOf
layers_in_file places path = do
  json ← file_of places path
  layers ← or_stop (λ fault. tool (fault_of_layers fault)) (layers_in json)
  each (layer_of places) (enumerate_from 0 layers)

-- the text of the id map that is made of an overlay over the base at a place
unfoldable pub made_json : ℕ → List ℕ → ℕ → List ℕ → Result (List ℕ) ToolFault
made_json base target_bytes place bytes = do
  target ← table_of_layer base target_bytes
  overlay ← table_of_layer place bytes
  Ok (map_text (made_map target overlay))

-- the table of the layer at a place
abbrev pub table_at_place : List LayerBytes → ℕ → List ℕ
table_at_place layers place = option_map_or (λ layer. layer.table) (slice_get layers place) []

-- A layer of a word that is a list, behind these: its table and then its id map, which is made.
unfoldable pub named_layer : Places → List LayerBytes → ListedLayer → Result LayerBytes StopOf
named_layer places before layer = do
  table ← listed_table_of (length before) places layer.path
  map ← where_overlay (λ base. made_json base (table_at_place before base) (length before) table) layer.base
  Ok (record { table = table; map = map })

-- these behind others, one after the other
unfoldable pub named_layers : Places → List LayerBytes → List ListedLayer → Result (List LayerBytes) StopOf
named_layers places before [] = Ok before
named_layers places before (layer ∷ layers) = do
  read ← named_layer places before layer
  named_layers places (before ++ read ∷ []) layers

unfoldable pub layers_named : Places → List ℕ → Result (List LayerBytes) StopOf
layers_named places word = do
  _ ← refuse (nat_lt most_layers (length (layers_in_word word))) (tool (faults.Layers TooManyLayers))
  named_layers places [] (layers_in_word word)

-- the layers of a word: of the list that it is, or of that in the file at this path
unfoldable pub layers_of : Places → List ℕ → Result (List LayerBytes) StopOf
layers_of places word = if is_list_word word then layers_named places word else layers_in_file places word

-- the same of one of two stacks that are compared: a fault of its list names the side
abbrev pub layers_on_side : Side → Places → List ℕ → Result (List LayerBytes) StopOf
layers_on_side side places path = or_stop (stop_on_side side) (layers_of places path)

-- ---- the paths of tables

abbrev pub paths_listed : Result (List LayerPaths) LayersFault → List (List ℕ)
paths_listed (Ok layers) = map (λ layer. layer.table) layers
paths_listed (Err fault) = []

abbrev pub paths_in_json : Result (List ℕ) StopOf → List (List ℕ)
paths_in_json (Ok json) = paths_listed (layers_in json)
paths_in_json (Err stop) = []

abbrev pub paths_in_word : List ℕ → List (List ℕ)
paths_in_word word = map (λ layer. layer.path) (layers_in_word word)

-- The paths of the tables of layers, as the word or the list has them; none where the list is not read.
unfoldable pub paths_of_layers : Places → List ℕ → List (List ℕ)
paths_of_layers places word = if is_list_word word then paths_in_word word else paths_in_json (file_of places word)
