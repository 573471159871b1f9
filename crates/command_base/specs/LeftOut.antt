-- What the maps leave out that are made of the overlays of a word: the lines of `map`, each behind its layer.
use Rattle.std.specs.Prelude.{ℕ, ◌&&◌, Bool, List, [], length, slice_get, Option, Some, None, Result, Ok, Err, if◌then◌else◌}
use Rattle.std.specs.List.{list_any}
use Rattle.std.specs.Option.{option_map_or}
use Rattle.contract_words.specs.Faults.{◌>>=◌}
use Rattle.contract_words.specs.Sequences.{joined_from}
use Rattle.command_base.specs.declared.fault.ToolFault.{ToolFault}
use Rattle.command_base.specs.declared.side.Side.{Side}
use Rattle.command_base.specs.Inputs.{table_at_place}
use Rattle.command_base.specs.LayerMark.{layer_mark}
use Rattle.command_base.specs.ListWord.{ListedLayer, is_list_word, is_plus, layers_in_word}
use Rattle.command_base.specs.MadeMap.{made_map}
use Rattle.command_base.specs.MapText.{lines_with}
use Rattle.command_base.specs.StackBytes.{LayerBytes, table_of_layer}

-- the lines of an overlay over its base, which stand at these places
unfoldable pub left_by_map : Option Side → ℕ → List ℕ → ℕ → List ℕ → Result (List ℕ) ToolFault
left_by_map side base target_bytes place bytes = do
  target ← table_of_layer base target_bytes
  overlay ← table_of_layer place bytes
  Ok (lines_with (layer_mark side place) overlay (made_map target overlay))

-- of which base the layer at a place is an overlay
abbrev pub base_of : List ListedLayer → ℕ → Option ℕ
base_of listed place = option_map_or (λ layer. layer.base) (slice_get listed place) None

-- those of the layer at a place; a base has none
unfoldable pub left_at : Option Side → List ListedLayer → List LayerBytes → ℕ → Result (List ℕ) ToolFault
left_at side listed layers place =
    option_map_or (λ base. left_by_map side base (table_at_place layers base) place (table_at_place layers place)) (base_of listed place) (Ok [])

-- those of all layers that a word lists
abbrev pub left_in : Option Side → List ListedLayer → List LayerBytes → Result (List ℕ) ToolFault
left_in side listed layers = joined_from (left_at side listed layers) 0 (length listed)

-- whether maps are made for a word: it is a list, and has an overlay
abbrev pub has_overlays : List ℕ → Bool
has_overlays word = is_list_word word && list_any is_plus word

-- the lines, where all tables are opened; where one is not, the command stops, and nothing is said
abbrev pub lines_or_none : Result (List ℕ) ToolFault → List ℕ
lines_or_none (Ok lines) = lines
lines_or_none (Err fault) = []

-- what is said of the layers that were read of a word
abbrev pub left_of : Option Side → List ℕ → List LayerBytes → List ℕ
left_of side word layers = if has_overlays word then lines_or_none (left_in side (layers_in_word word) layers) else []
