use Rattle.std.specs.List.{AllZip}
use Rattle.stack_diff.specs.Grouped.{JoinsBoxes}
use Rattle.stack_diff.proofs.grouped.joined_each.Given as goal

abbrev pub invariant-loop-change : goal.invariant-loop-change
invariant-loop-change l = AllZip JoinsBoxes l.yielded l.joined.items
