use Rattle.std.proofs.lemmas.List.{drop_all}
use Rattle.stack_diff.proofs.PushedSteps.{map-drop, map-end}
use Rattle.stack_diff.proofs.look_up.push_rows.Goals as goal

pub loop-place-preserved : goal.loop-place-preserved
loop-place-preserved c = map-drop _ _ _ _ c.args.places.now c.loop-place.place-index 0 c.loop-place.invariant c.loop-place-test.true c.in_ok-push.ensures.items

pub returns : goal.returns
returns c = map-end _ _ _ _ c.loop-place.invariant (drop_all c.loop-place.place-index c.args.places.now c.loop-place-test.false)
