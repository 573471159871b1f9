use Rattle.std.proofs.Common.{take}
use Rattle.stack_diff.specs.Raising.{cells_of, rows_more, no_more, KeepsReach}
use Rattle.stack_diff.proofs.uses.Uses.raise_each.Given as goal

abbrev pub invariant-loop-row : goal.invariant-loop-row
invariant-loop-row l = KeepsReach (cells_of l.fn.self) (rows_more (take l.row-index l.rows)) (cells_of l.self) no_more
