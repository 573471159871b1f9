use Rattle.std.proofs.Common.{sym, subst, arith}
use Rattle.config_box.specs.box_answers.NumberSet.{RangeOf}
use Rattle.config_box.specs.Least.{HasOneSet}
use Rattle.config_box.proofs.RangeSteps.{one-first, all-first}
use Rattle.config_box.proofs.joined_boxes.vary.Goals as goal

pub returns-in_default : goal.returns-in_default
returns-in_default c = let none = c.in_default.ensures.cases in (RangeOf 0 0, λ k d q. absurd (omega arith))

pub returns-then-not-is_alike_at : goal.returns-then-not-is_alike_at
returns-then-not-is_alike_at c one =
    c.if-not-is_alike_at.ensures
    (one-first c.args.at c.in-Some.first.now c.other-item.result c.in-Some.others.now c.loop-other.other-index (subst (HasOneSet c.args.at) c.in-Some.ensures.cases.0 one) c.loop-other-test.true c.other-item.is)

pub returns : goal.returns
returns c =
    subst (HasOneSet c.args.at) (sym c.in-Some.ensures.cases.0)
    (all-first c.args.at c.in-Some.first.now c.in-Some.others.now (λ k d q. c.loop-other.invariant k d (omega (arith, c.loop-other-test.false))))
