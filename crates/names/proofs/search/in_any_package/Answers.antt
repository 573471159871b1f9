use Rattle.names.proofs.Pushed.{map-pushed, map-all}
use Rattle.names.proofs.search.in_any_package.Goals as goal

pub loop-name-preserved : goal.loop-name-preserved
loop-name-preserved c = map-pushed _ _ _ _ _ _ c.loop-name-test.true c.loop-name.invariant c.in_ok-push.ensures.items

pub returns : goal.returns
returns c = map-all _ _ _ _ c.loop-name.invariant c.loop-name-test.false
