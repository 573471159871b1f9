use Rattle.resource_tool.proofs.LineSteps.{LinesAllBut}
use Rattle.resource_tool.proofs.show.tree_lines.tree_lines.Given as goal

abbrev pub invariant-loop-number : goal.invariant-loop-number
invariant-loop-number l = LinesAllBut l.lines.items l.paths l.number l.nodes
