use Rattle.std.proofs.Common.{◌≡◌, ℕ, List, Bool, filter, get_or, sym, ap, subst, ◌∙◌}
use Rattle.std.proofs.lemmas.List.{take_all}
use Rattle.box_answers.specs.config_record.locales.declared.locale.Locale.{Locale}
use Rattle.box_answers.specs.config_record.locales.LocaleNumber.{locale_number}
use Rattle.config_box.specs.Tests.{test_of}
use Rattle.config_box.specs.HalfSets.{gives}
use Rattle.config_box.proofs.Filters.{kept-next, left-next}
use Rattle.config_box.proofs.half.kept_locales.Goals as goal
use Rattle.config_box.proofs.half.kept_locales.Goals.{then-is_kept+in_ok-push, else-is_kept}

pub loop-locale-preserved : goal.loop-locale-preserved
loop-locale-preserved c =
    let keeps : Locale → Bool = λ x. gives (test_of c.args.test.now) c.args.answer (locale_number x) in
    let passes = sym (c.is_kept.ensures ∙ ap (gives (test_of c.args.test.now) c.args.answer) c.number.ensures.value) in
    elim c.if-is_kept.branch [
      | then-is_kept+in_ok-push w ↦ kept-next keeps c.args.locales.now c.loop-locale.kept.items c.if-is_kept.kept.items c.loop-locale.locale-index _ c.loop-locale.invariant c.loop-locale-test.true (passes ∙ w.if-is_kept.true)
          (ap (λ v. v.items) w.kept-is ∙ w.in_ok-push.ensures.items)
      | else-is_kept w ↦ ap (λ v. v.items) w.kept-is ∙ left-next keeps c.args.locales.now c.loop-locale.kept.items c.loop-locale.locale-index _ c.loop-locale.invariant c.loop-locale-test.true (passes ∙ w.if-is_kept.false)
    ]

pub returns : goal.returns
returns c =
    let keeps : Locale → Bool = λ x. gives (test_of c.args.test.now) c.args.answer (locale_number x) in
    c.loop-locale.invariant ∙ ap (filter keeps) (take_all c.loop-locale.locale-index c.args.locales.now c.loop-locale-test.false)
