use Rattle.std.proofs.Common.{take}
use Rattle.stack_diff.specs.Raising.{AsksFor, cells_of}
use Rattle.stack_diff.proofs.uses.Uses.ask_each.Given as goal

-- those so far are asked for
abbrev pub invariant-loop-row : goal.invariant-loop-row
invariant-loop-row l = AsksFor (take l.row-index l.rows) (cells_of l.fn.self) (cells_of l.self)
