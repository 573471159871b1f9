-- What is made of an overlay over its base, by the bytes of both. (Cited by contracts of this crate alone.)
use Rattle.std.specs.Prelude.{ℕ, List, Result, Ok}
use Rattle.contract_words.specs.Faults.{◌>>=◌}
use Rattle.command_base.specs.declared.fault.ToolFault.{ToolFault}
use Rattle.command_base.specs.declared.made_map.MadeMap.{MadeMap}
use Rattle.command_base.specs.MadeMap.{made_map}
use Rattle.command_base.specs.MapText.{lines_with, map_text}
use Rattle.command_base.specs.StackBytes.{table_of_layer}

-- the text of the map, and the lines of what it leaves out
pub record MadeOf : Type 0 where
  pub json : List ℕ
  pub left : List ℕ

abbrev pub made_of : MadeMap → MadeOf
made_of made = record { json = made.json.items; left = made.left.items }

-- both stand at these places, and this stands before each line
unfoldable pub made_over : List ℕ → ℕ → List ℕ → ℕ → List ℕ → Result MadeOf ToolFault
made_over before base target_bytes place bytes = do
  target ← table_of_layer base target_bytes
  overlay ← table_of_layer place bytes
  Ok (record { json = map_text (made_map target overlay); left = lines_with before overlay (made_map target overlay) })
