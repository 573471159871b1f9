use Rattle.stack_diff.proofs.PushedSteps.{map-next, map-end}
use Rattle.stack_diff.proofs.looked_up.ids_in.Goals as goal

pub loop-number-preserved : goal.loop-number-preserved
loop-number-preserved c = map-next _ _ _ _ _ _ _ c.loop-number.invariant c.in-Some.ensures.steps c.in_ok-push.ensures.items

pub returns-clause-ids : goal.returns-clause-ids
returns-clause-ids c = map-end _ _ _ _ c.loop-number.invariant c.in-None.ensures.steps.0
