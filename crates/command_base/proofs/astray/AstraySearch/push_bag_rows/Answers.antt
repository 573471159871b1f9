use Rattle.std.proofs.Common.{refl}
use Rattle.command_base.specs.MadeMap.{astray_by_bag_row}
use Rattle.command_base.proofs.LoopSteps.{JoinsAllBut-both}
use Rattle.command_base.proofs.astray.AstraySearch.push_bag_rows.Goals as goal

pub loop-name-preserved : goal.loop-name-preserved
unfolding astray_by_bag_row
loop-name-preserved c = JoinsAllBut-both _ _ _ _ _ _ _ _ _ _ c.loop-name.invariant c.in-Some.ensures.steps refl c.in_ok-push_id.ensures c.in_ok-push_value.ensures
