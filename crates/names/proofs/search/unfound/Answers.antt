use Rattle.names.proofs.Pushed.{map-pushed, map-all}
use Rattle.names.proofs.search.unfound.Goals as goal

pub loop-one-preserved : goal.loop-one-preserved
loop-one-preserved c = map-pushed _ _ _ _ _ _ c.loop-one-test.true c.loop-one.invariant c.in_ok-push.ensures.items

pub returns : goal.returns
returns c = map-all _ _ _ _ c.loop-one.invariant c.loop-one-test.false
