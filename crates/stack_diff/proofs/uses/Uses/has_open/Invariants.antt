use Rattle.std.proofs.Common.{◌≡◌, drop}
use Rattle.std.specs.List.{list_any}
use Rattle.stack_diff.specs.Raising.{cells_of, is_open_at}
use Rattle.stack_diff.proofs.uses.Uses.has_open.Given as goal

abbrev pub invariant-loop-row : goal.invariant-loop-row
invariant-loop-row l = list_any (is_open_at (cells_of l.self)) (drop l.row-index l.rows) ≡ list_any (is_open_at (cells_of l.self)) l.rows
