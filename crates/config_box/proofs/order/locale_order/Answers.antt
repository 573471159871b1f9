use Rattle.std.proofs.Common.{ℕ, [], get_or, sym, ap, ◌∙◌, arith}
use Rattle.std.specs.Ordering.{nat_cmp}
use Rattle.std.proofs.lemmas.List.{length-map}
use Rattle.box_answers.specs.config_record.locales.LocaleNumber.{locale_number}
use Rattle.box_answers.specs.NumberSet.{locale_numbers}
use Rattle.config_box.proofs.JoinSteps.{number-at}
use Rattle.config_box.proofs.OrderSteps.{cmp-decided, cmp-alike, cmp-longer, cmp-shorter}
use Rattle.config_box.proofs.order.locale_order.Goals as goal

pub returns-then-place-others : goal.returns-then-place-others
returns-then-place-others c =
    let long = length-map c.args.locales.now locale_number in
    let long_b = length-map c.args.others.now locale_number in
    sym (cmp-longer nat_cmp (locale_numbers c.args.locales.now) (locale_numbers c.args.others.now) c.loop-place.place 0 (omega (arith, c.loop-place-test.true)) (omega (arith, c.if-place-others.true)))
    ∙ c.loop-place.invariant.left

pub returns-in_default : goal.returns-in_default
returns-in_default c =
    let i : ℕ = c.loop-place.place in
    let long = length-map c.args.locales.now locale_number in
    let long_b = length-map c.args.others.now locale_number in
    let first = number-at c.args.locales.now i c.number.result (record { language = []; region = []; script = [] }) c.loop-place-test.true c.number.ensures.value in
    let second = number-at c.args.others.now i c.number-in-loop-place.result (record { language = []; region = []; script = [] }) (omega (arith, c.if-place-others.false)) c.number-in-loop-place.ensures.value in
    cmp-decided nat_cmp (locale_numbers c.args.locales.now) (locale_numbers c.args.others.now) i 0 c.cmp.result (omega (arith, c.loop-place-test.true)) (omega (arith, c.if-place-others.false))
    (c.cmp.ensures ∙ ap (λ (n : ℕ). nat_cmp n c.number-in-loop-place.result) (sym first) ∙ ap (λ (n : ℕ). nat_cmp (get_or (locale_numbers c.args.locales.now) i 0) n) (sym second)) c.in_default.not-Equal
    ∙ c.loop-place.invariant.left

pub loop-place-preserved : goal.loop-place-preserved
loop-place-preserved c =
    let i : ℕ = c.loop-place.place in
    let long = length-map c.args.locales.now locale_number in
    let long_b = length-map c.args.others.now locale_number in
    let first = number-at c.args.locales.now i c.number.result (record { language = []; region = []; script = [] }) c.loop-place-test.true c.number.ensures.value in
    let second = number-at c.args.others.now i c.number-in-loop-place.result (record { language = []; region = []; script = [] }) (omega (arith, c.if-place-others.false)) c.number-in-loop-place.ensures.value in
    record {
      left = cmp-alike nat_cmp (locale_numbers c.args.locales.now) (locale_numbers c.args.others.now) i 0 (omega (arith, c.loop-place-test.true)) (omega (arith, c.if-place-others.false))
          (ap (λ (n : ℕ). nat_cmp n (get_or (locale_numbers c.args.others.now) i 0)) first ∙ ap (λ (n : ℕ). nat_cmp c.number.result n) second ∙ sym c.cmp.ensures ∙ c.in-Equal.is)
          ∙ c.loop-place.invariant.left;
      within = omega (arith, c.if-place-others.false);
    }

pub returns-then-locales-others : goal.returns-then-locales-others
returns-then-locales-others c =
    let long = length-map c.args.locales.now locale_number in
    let long_b = length-map c.args.others.now locale_number in
    let within = c.loop-place.invariant.within in
    sym (cmp-shorter nat_cmp (locale_numbers c.args.locales.now) (locale_numbers c.args.others.now) c.loop-place.place 0 (omega (arith, c.loop-place-test.false)) (omega (arith, c.loop-place-test.false, c.if-locales-others.true)))
    ∙ c.loop-place.invariant.left
