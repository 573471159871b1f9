use Rattle.std.proofs.Common.{◌≡◌, drop}
use Rattle.std.specs.List.{list_any}
use Rattle.box_answers.specs.config_record.Coord.{is_outside}
use Rattle.config_box.proofs.read.any_outside.Given as goal

-- the answer is that for the numbers that are left
abbrev pub invariant-loop-number : goal.invariant-loop-number
invariant-loop-number l = list_any (is_outside l.at) (drop l.number-index l.numbers) ≡ list_any (is_outside l.at) l.numbers
