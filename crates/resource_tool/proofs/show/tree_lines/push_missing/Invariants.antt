use Rattle.std.proofs.Common.{length}
use Rattle.resource_tool.proofs.LineSteps.{MissingAllBut}
use Rattle.resource_tool.proofs.show.tree_lines.push_missing.Given as goal

abbrev pub invariant-paths : goal.invariant-paths
invariant-paths l = MissingAllBut l.initial.lines.items l.lines.items l.left l.fn.paths

abbrev pub decreases-paths : goal.decreases-paths
decreases-paths l = length l.left
