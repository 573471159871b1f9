use Rattle.std.proofs.Common.{refl}
use Rattle.resource_tool.proofs.AnySteps.{line-next_at, FindsAllBut-next_at}
use Rattle.resource_tool.proofs.survey.write_each_lacking.Goals as goal

pub loop-coord-preserved : goal.loop-coord-preserved
loop-coord-preserved g c = record {
  texts = line-next_at _ _ _ _ _ _ _ c.loop-coord.invariant.texts c.loop-coord-test.true (rw c.lacks-lacking.ensures at c.in_ok-write_lacking.ensures);
  some = FindsAllBut-next_at _ _ _ _ _ _ _ c.loop-coord.invariant.some c.loop-coord-test.true c.lacks-lacking.ensures refl;
}
