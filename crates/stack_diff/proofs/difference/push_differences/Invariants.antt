use Rattle.std.proofs.Common.{◌+◌, ◌++◌, length, map}
use Rattle.stack_diff.specs.Difference.{row_differences}
use Rattle.stack_diff.specs.DifferenceSeen.{row_difference_of}
use Rattle.stack_diff.proofs.RowSteps.{seen, RowsAllBut}
use Rattle.stack_diff.proofs.difference.push_differences.Given as goal

abbrev pub invariant-rows : goal.invariant-rows
invariant-rows l = RowsAllBut l.rows.items l.before.items l.after.items (map row_difference_of l.fn.rows.items ++ row_differences (seen l.fn.before.items) (seen l.fn.after.items))

abbrev pub decreases-rows : goal.decreases-rows
decreases-rows l = length l.before.items + length l.after.items
