use Rattle.names.proofs.Pushed.{map-next, map-end}
use Rattle.names.proofs.ids.ids_in.Goals as goal

pub loop-number-preserved : goal.loop-number-preserved
loop-number-preserved c = map-next _ _ _ _ _ _ _ c.loop-number.invariant c.in-Some.ensures.steps c.in_ok-push.ensures.items

pub returns : goal.returns
returns c = map-end _ _ _ _ c.loop-number.invariant c.in-None.ensures.steps.0
