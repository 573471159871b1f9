-- Which layer a line is of.
use Rattle.std.specs.Prelude.{ℕ, ◌++◌, List, [], codes, Option, Some, None}
use Rattle.answer_text.specs.LayerText.{layer_text}
use Rattle.command_base.specs.declared.side.Side.{Side}
use Rattle.command_base.specs.SideName.{side_name}

-- `old ` or `new `, where two stacks are compared
abbrev pub side_mark : Option Side → List ℕ
side_mark None = []
side_mark (Some side) = side_name side ++ codes " "

-- `layer L `, or `old layer L `
unfoldable pub layer_mark : Option Side → ℕ → List ℕ
layer_mark side place = side_mark side ++ layer_text place ++ codes " "
