use Rattle.std.proofs.Common.{arith}
use Rattle.string_pool.proofs.UnitSteps.{units_in-end, units_in-next}
use Rattle.names.proofs.NameSteps.{units-next, units-end}
use Rattle.names.proofs.text.units_in.Goals as goal

pub loop-left-preserved : goal.loop-left-preserved
loop-left-preserved c =
    rw c.in_ok-push.ensures.items
    (units-next _ c.loop-left.left.now _ _ _ c.loop-left.invariant
    (units_in-next _ _ _ (omega (arith, c.loop-left-test.true)) c.u16_within.ensures c.split_at.ensures.back))

pub returns : goal.returns
returns c = units-end _ _ _ c.loop-left.invariant (units_in-end _ (omega (arith, c.loop-left-test.false)))
