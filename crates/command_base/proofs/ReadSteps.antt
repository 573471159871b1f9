-- What is meant where something of what is read in turn stops, or is read.
use Rattle.std.proofs.Common.{◌≡◌, ℕ, Bool, false, List, length, map, Option, Some, None, Result, Ok, Err, sym, ap, ◌∙◌}
use Rattle.std.specs.List.{enumerate_from}
use Rattle.std.specs.Prelude.{if◌then◌else◌}
use Rattle.apk_member.specs.declared.fault.ApkFault.{ApkFault}
use Rattle.notation.specs.Printed.{is_printed}
use Rattle.contract_words.specs.Faults.{◌>>=◌}
use Rattle.json_input.specs.Each.{each}
use Rattle.names.specs.WordFile.{file_path_in}
use Rattle.command_base.specs.DeviceText.{DeviceTextOf, device_text_at, json, printed}
use Rattle.command_base.specs.FileWords.{words_at, words_in_place_of, words_of_file}
use Rattle.command_base.specs.Inputs.{Places, file_of, layer_file_of, layer_of, layers_in_file, listed_table_of, made_json, named_layer, or_stop, stop_at, table_at, table_at_place, table_place, table_within, where_given, where_overlay}
use Rattle.command_base.specs.LayerList.{LayerPaths, layers_in}
use Rattle.command_base.specs.ListWord.{ListedLayer}
use Rattle.command_base.specs.StackBytes.{LayerBytes}
use Rattle.command_base.specs.Stop.{StopOf, file, tool}
use Rattle.command_base.specs.ToolFault.{fault_of_layers}
use Rattle.command_base.specs.declared.fault.ToolFault.{ToolFault}
use Rattle.command_base.specs.declared.layers_fault.LayersFault.{LayersFault}

-- ---- a table

pub of-table_bytes : (fault_of : ApkFault → ToolFault) (places : Places) (path : List ℕ) (bytes : Result (List ℕ) StopOf)
    → or_stop (stop_at (file path)) (places (table_place path)) ≡ bytes → table_at fault_of places path ≡ (bytes >>= λ bytes. table_within fault_of path bytes)
unfolding table_at
of-table_bytes fault_of places path bytes are = ap (λ (bytes : Result (List ℕ) StopOf). bytes >>= λ bytes. table_within fault_of path bytes) are

-- ---- a device

abbrev as_json : Result (List ℕ) StopOf → Result DeviceTextOf StopOf
as_json bytes = bytes >>= λ bytes. Ok (json bytes)

abbrev text_by : List ℕ → Result (List ℕ) StopOf → Bool → Result DeviceTextOf StopOf
text_by word bytes by = if by then Ok (printed word) else as_json bytes

pub of-device_bytes : (places : Places) (word : List ℕ) (bytes : Result (List ℕ) StopOf) → is_printed word ≡ false → file_of places word ≡ bytes → device_text_at places word ≡ as_json bytes
unfolding device_text_at
of-device_bytes places word bytes by are = ap (text_by word (file_of places word)) by ∙ ap as_json are

-- ---- words of a file

abbrev words_of_bytes : List ℕ → Result (List ℕ) StopOf → Result (List (List ℕ)) StopOf
words_of_bytes path bytes = bytes >>= λ bytes. words_of_file path bytes

pub of-word_file : (places : Places) (word path : List ℕ) (bytes : Result (List ℕ) StopOf) → Some path ≡ file_path_in word → file_of places path ≡ bytes
    → words_at places word ≡ words_of_bytes path bytes
unfolding words_at
of-word_file places word path bytes names are = ap (words_in_place_of places word) (sym names) ∙ ap (words_of_bytes path) are

-- ---- a layer

abbrev held : List ℕ → Option (List ℕ) → Result LayerBytes StopOf
held table map = Ok (record { table = table; map = map })

abbrev with_map : List ℕ → Result (Option (List ℕ)) StopOf → Result LayerBytes StopOf
with_map table map = map >>= λ map. held table map

abbrev some_of : Result (List ℕ) StopOf → Result (Option (List ℕ)) StopOf
some_of bytes = bytes >>= λ bytes. Ok (Some bytes)

-- of a list in a file
abbrev listed_with : Places → LayerPaths → Result (List ℕ) StopOf → Result LayerBytes StopOf
listed_with places paths table = table >>= λ table. with_map table (where_given (layer_file_of places) paths.map)

pub of-listed_table : (places : Places) (place : ℕ) (paths : LayerPaths) (table : Result (List ℕ) StopOf) → listed_table_of place places paths.table ≡ table
    → layer_of places (place, paths) ≡ listed_with places paths table
unfolding layer_of
of-listed_table places place paths table is = ap (listed_with places paths) is

pub of-listed_map : (places : Places) (place : ℕ) (paths : LayerPaths) (table path : List ℕ) (map : Result (List ℕ) StopOf) → listed_table_of place places paths.table ≡ Ok table
    → paths.map ≡ Some path → layer_file_of places path ≡ map → layer_of places (place, paths) ≡ with_map table (some_of map)
of-listed_map places place paths table path map is names are =
    of-listed_table places place paths (Ok table) is
    ∙ ap (λ (path : Option (List ℕ)). with_map table (where_given (layer_file_of places) path)) names
    ∙ ap (λ (map : Result (List ℕ) StopOf). with_map table (some_of map)) are

-- of a word that is a list
abbrev named_with : List LayerBytes → ListedLayer → Result (List ℕ) StopOf → Result LayerBytes StopOf
named_with before layer table = table >>= λ table. with_map table (where_overlay (λ base. made_json base (table_at_place before base) (length before) table) layer.base)

pub of-named_table : (places : Places) (before : List LayerBytes) (layer : ListedLayer) (place : ℕ) (path : List ℕ) (table : Result (List ℕ) StopOf)
    → place ≡ length before → path ≡ layer.path → listed_table_of place places path ≡ table → named_layer places before layer ≡ named_with before layer table
unfolding named_layer
of-named_table places before layer place path table at names is =
    ap (named_with before layer)
    (sym (ap (λ (place : ℕ). listed_table_of place places path) at ∙ ap (λ (path : List ℕ). listed_table_of (length before) places path) names) ∙ is)

pub of-named_base : (places : Places) (before : List LayerBytes) (layer : ListedLayer) (place : ℕ) (path table : List ℕ)
    → place ≡ length before → path ≡ layer.path → listed_table_of place places path ≡ Ok table → layer.base ≡ None → named_layer places before layer ≡ held table None
of-named_base places before layer place path table at names is alone =
    of-named_table places before layer place path (Ok table) at names is
    ∙ ap (λ (base : Option ℕ). with_map table (where_overlay (λ base. made_json base (table_at_place before base) (length before) table) base)) alone

abbrev as_stop : Result (List ℕ) ToolFault → Result (List ℕ) StopOf
as_stop made = or_stop (λ fault. tool fault) made

pub of-named_map : (places : Places) (before : List LayerBytes) (layer : ListedLayer) (place base : ℕ) (path table target : List ℕ) (made : Result (List ℕ) ToolFault)
    → place ≡ length before → path ≡ layer.path → listed_table_of place places path ≡ Ok table → layer.base ≡ Some base → target ≡ table_at_place before base
    → made_json base target place table ≡ made → named_layer places before layer ≡ with_map table (some_of (as_stop made))
of-named_map places before layer place base path table target made at names is over of_base are =
    let over_base : ℕ → Result (List ℕ) ToolFault = λ base. made_json base (table_at_place before base) (length before) table in
    of-named_table places before layer place path (Ok table) at names is
    ∙ ap (λ (base : Option ℕ). with_map table (where_overlay over_base base)) over
    ∙ ap (λ (made : Result (List ℕ) ToolFault). with_map table (some_of (as_stop made)))
    (sym (ap (λ (target : List ℕ). made_json base target place table) of_base ∙ ap (λ (place : ℕ). made_json base (table_at_place before base) place table) at) ∙ are)

-- ---- all layers of a list in a file

abbrev each_of : Places → Result (List LayerPaths) LayersFault → Result (List LayerBytes) StopOf
each_of places layers = or_stop (λ fault. tool (fault_of_layers fault)) layers >>= λ layers. each (layer_of places) (enumerate_from 0 layers)

abbrev layers_with : Places → Result (List ℕ) StopOf → Result (List LayerBytes) StopOf
layers_with places bytes = bytes >>= λ bytes. each_of places (layers_in bytes)

pub of-list_bytes : (places : Places) (path : List ℕ) (bytes : Result (List ℕ) StopOf) → file_of places path ≡ bytes → layers_in_file places path ≡ layers_with places bytes
unfolding layers_in_file
of-list_bytes places path bytes are = ap (layers_with places) are

pub of-list : (places : Places) (path bytes : List ℕ) (layers : List LayerPaths) (files : Result (List LayerBytes) StopOf) → file_of places path ≡ Ok bytes → layers_in bytes ≡ Ok layers
    → each (layer_of places) (enumerate_from 0 layers) ≡ files → layers_in_file places path ≡ files
of-list places path bytes layers files are list read = of-list_bytes places path (Ok bytes) are ∙ ap (each_of places) list ∙ read

pub of-list_fault : (places : Places) (path bytes : List ℕ) (fault : LayersFault) → file_of places path ≡ Ok bytes → layers_in bytes ≡ Err fault
    → layers_in_file places path ≡ Err (tool (fault_of_layers fault))
of-list_fault places path bytes fault are list = of-list_bytes places path (Ok bytes) are ∙ ap (each_of places) list
