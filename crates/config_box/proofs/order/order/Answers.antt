use Rattle.std.proofs.Common.{◌∙◌, arith}
use Rattle.config_box.proofs.OrderSteps.{sets-decided, sets-alike}
use Rattle.config_box.proofs.order.order.Goals as goal

pub returns-in_default : goal.returns-in_default
returns-in_default c =
    let count = c.requires in
    let on = c.loop-place-test.true in
    sets-decided c.args.sets.now c.args.others.now c.loop-place.place c.index-sets-place.result c.index-others-place.result c.set_order.result on (omega arith) c.index-sets-place.is c.index-others-place.is
    c.set_order.ensures c.in_default.not-Equal ∙ c.loop-place.invariant

pub loop-place-preserved : goal.loop-place-preserved
loop-place-preserved c =
    let count = c.requires in
    let on = c.loop-place-test.true in
    sets-alike c.args.sets.now c.args.others.now c.loop-place.place c.index-sets-place.result c.index-others-place.result c.set_order.result on (omega arith) c.index-sets-place.is c.index-others-place.is
    c.set_order.ensures c.in-Equal.is ∙ c.loop-place.invariant
