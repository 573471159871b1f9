use Rattle.std.proofs.Common.{◌≡◌, ℕ, List, Bool, filter, get_or, sym, ap, subst, ◌∙◌}
use Rattle.std.proofs.lemmas.List.{take_all}
use Rattle.config_box.specs.Tests.{test_of}
use Rattle.config_box.specs.HalfSets.{gives}
use Rattle.config_box.proofs.Filters.{kept-next, left-next}
use Rattle.config_box.proofs.half.kept_numbers.Goals as goal
use Rattle.config_box.proofs.half.kept_numbers.Goals.{then-is_kept+in_ok-push, else-is_kept}

pub loop-number-preserved : goal.loop-number-preserved
loop-number-preserved c =
    let keeps : ℕ → Bool = λ x. gives (test_of c.args.test.now) c.args.answer x in
    let passes = sym (c.is_kept.ensures ∙ ap (gives (test_of c.args.test.now) c.args.answer) c.from.ensures) in
    elim c.if-is_kept.branch [
      | then-is_kept+in_ok-push w ↦ kept-next keeps c.args.numbers.now c.loop-number.kept.items c.if-is_kept.kept.items c.loop-number.number-index _ c.loop-number.invariant c.loop-number-test.true (passes ∙ w.if-is_kept.true)
          (ap (λ v. v.items) w.kept-is ∙ w.in_ok-push.ensures.items)
      | else-is_kept w ↦ ap (λ v. v.items) w.kept-is ∙ left-next keeps c.args.numbers.now c.loop-number.kept.items c.loop-number.number-index _ c.loop-number.invariant c.loop-number-test.true (passes ∙ w.if-is_kept.false)
    ]

pub returns : goal.returns
returns c =
    let keeps : ℕ → Bool = λ x. gives (test_of c.args.test.now) c.args.answer x in
    c.loop-number.invariant ∙ ap (filter keeps) (take_all c.loop-number.number-index c.args.numbers.now c.loop-number-test.false)
