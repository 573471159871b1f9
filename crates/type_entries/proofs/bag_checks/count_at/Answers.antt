use Rattle.std.proofs.Common.{◌≡◌, ◌-◌, ℕ, true, false, refl, sym, ap, ◌∙◌, arith}
use Rattle.type_entries.specs.WrongSizes.{is_wrong}
use Rattle.type_entries.proofs.WrongSteps.{CountWrong-next}
use Rattle.type_entries.proofs.bag_checks.count_at.Goals as goal

pub overflow_add-result : goal.overflow_add-result
overflow_add-result c = omega (arith, c.requires.few (c.args.place - 12), c.requires.small, c.requires.within)

pub returns-then-is_wrong-clause-counted : goal.returns-then-is_wrong-clause-counted
returns-then-is_wrong-clause-counted c = λ so_far. CountWrong-next c.args.whole.now c.args.counts.now _ so_far (λ before here.
    let same : c.args.place - 12 ≡ before = omega (arith, here, c.requires.here) in
    let wrong : is_wrong c.args.whole.now before ≡ true = ap (λ (n : ℕ). is_wrong c.args.whole.now n) (sym same) ∙ sym c.if-is_wrong.ensures in
    rw (same, wrong) refl)

pub returns-else-is_wrong-clause-counted : goal.returns-else-is_wrong-clause-counted
returns-else-is_wrong-clause-counted c = λ so_far. CountWrong-next c.args.whole.now c.args.counts.now _ so_far (λ before here.
    let same : c.args.place - 12 ≡ before = omega (arith, here, c.requires.here) in
    let right : is_wrong c.args.whole.now before ≡ false = ap (λ (n : ℕ). is_wrong c.args.whole.now n) (sym same) ∙ sym c.if-is_wrong.ensures in
    rw (same, right) (omega arith))
