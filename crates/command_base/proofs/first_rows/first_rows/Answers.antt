use Rattle.command_base.proofs.FirstRowSteps.{FindsAllBut-next}
use Rattle.command_base.proofs.first_rows.first_rows.Goals as goal

pub loop-row-preserved : goal.loop-row-preserved
loop-row-preserved c =
    FindsAllBut-next _ _ _ _ _ _ c.loop-row.invariant c.in-Some.ensures.steps c.in_ok-keep_first.ensures.0 c.in_ok-keep_first.ensures.1 c.in_ok-keep_first.ensures.2
