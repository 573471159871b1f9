use Rattle.resource_tool.proofs.AnySteps.{line-next_at}
use Rattle.resource_tool.proofs.survey.write_each_line.Goals as goal

pub loop-coord-preserved : goal.loop-coord-preserved
loop-coord-preserved g c = line-next_at _ _ _ _ _ _ _ c.loop-coord.invariant c.loop-coord-test.true (rw c.spread.ensures at c.in_ok-write_qualifier.ensures)
