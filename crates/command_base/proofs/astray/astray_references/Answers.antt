use Rattle.command_base.proofs.LoopSteps.{JoinsAllBut-next}
use Rattle.command_base.proofs.astray.astray_references.Goals as goal

pub loop-row-preserved : goal.loop-row-preserved
loop-row-preserved c = JoinsAllBut-next _ _ _ _ _ _ _ c.loop-row.invariant c.in-Some.ensures.steps c.in_ok-push_row.ensures
