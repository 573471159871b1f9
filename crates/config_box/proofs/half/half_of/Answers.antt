use Rattle.std.proofs.Common.{◌≡◌, ℕ, ◌<◌, List, length, filter, arith, sym, ◌∙◌, subst}
use Rattle.std.proofs.lemmas.Bool.Decides.{nat_tests}
use Rattle.std.proofs.lemmas.List.{length-map}
use Rattle.box_answers.specs.config_record.locales.declared.locale.Locale.{Locale}
use Rattle.box_answers.specs.config_record.locales.LocaleNumber.{locale_number}
use Rattle.box_answers.specs.declared.number_set.NumberSet.{NumberSet}
use Rattle.box_answers.specs.NumberSet.{NumbersOf, LocalesOf, set_of, locale_numbers, IsProper}
use Rattle.config_box.specs.Tests.{test_of}
use Rattle.config_box.specs.HalfSets.{gives, NoneAnswers, IsHalfSet}
use Rattle.config_box.proofs.HalfSteps.{numbers-half, numbers-none, locales-kept, locales-half, locales-none}
use Rattle.config_box.proofs.half.half_of.Goals as goal

pub returns-then-is_empty : goal.returns-then-is_empty
returns-then-is_empty c =
    let items : List ℕ = c.in-Numbers.numbers.value.items in
    let kept : c.in_ok-kept-in-Numbers.kept.items ≡ filter (λ n. gives (test_of c.args.test.now) c.args.answer n) items = rw (c.as_slice.ensures.value, c.as_ref.ensures) at c.in_ok-kept-in-Numbers.ensures in
    let none : length c.in_ok-kept-in-Numbers.kept.items ≡ 0 = grind (arith, nat_tests, c.is_empty.ensures, c.if-is_empty.true) in
    subst (λ (s : NumberSet). NoneAnswers (set_of s) (test_of c.args.test.now) c.args.answer) (sym c.in-Numbers.is)
    (numbers-none items c.in_ok-kept-in-Numbers.kept.items (test_of c.args.test.now) c.args.answer kept none)

pub returns-in_ok-new-in-Numbers : goal.returns-in_ok-new-in-Numbers
returns-in_ok-new-in-Numbers c =
    let items : List ℕ = c.in-Numbers.numbers.value.items in
    let kept : c.in_ok-kept-in-Numbers.kept.items ≡ filter (λ n. gives (test_of c.args.test.now) c.args.answer n) items = rw (c.as_slice.ensures.value, c.as_ref.ensures) at c.in_ok-kept-in-Numbers.ensures in
    let some : 0 < length c.in_ok-kept-in-Numbers.kept.items = grind (arith, nat_tests, c.is_empty.ensures, c.if-is_empty.false) in
    let proper : IsProper (NumbersOf items) = subst (λ (s : NumberSet). IsProper (set_of s)) c.in-Numbers.is c.requires.proper in
    rw c.in_ok-new-in-Numbers.ensures.ok
    (subst (λ (s : NumberSet). IsHalfSet (set_of s) (test_of c.args.test.now) c.args.answer (NumbersOf c.in_ok-kept-in-Numbers.kept.items)) (sym c.in-Numbers.is)
    (numbers-half items c.in_ok-kept-in-Numbers.kept.items (test_of c.args.test.now) c.args.answer proper kept some))

pub returns-then-is_empty-2 : goal.returns-then-is_empty-2
returns-then-is_empty-2 c =
    let items : List Locale = c.in-Locales.locales.value.items in
    let kept : c.in_ok-kept-in-Locales.kept.items ≡ filter (λ l. gives (test_of c.args.test.now) c.args.answer (locale_number l)) items = rw (c.as_slice-in-Locales.ensures.value, c.as_ref-in-Locales.ensures) at c.in_ok-kept-in-Locales.ensures in
    let none : length c.in_ok-kept-in-Locales.kept.items ≡ 0 = grind (arith, nat_tests, c.is_empty-in-Locales.ensures, c.if-is_empty-2.true) in
    subst (λ (s : NumberSet). NoneAnswers (set_of s) (test_of c.args.test.now) c.args.answer) (sym c.in-Locales.is)
    (locales-none (locale_numbers items) (locale_numbers c.in_ok-kept-in-Locales.kept.items) (test_of c.args.test.now) c.args.answer
    (locales-kept items c.in_ok-kept-in-Locales.kept.items (test_of c.args.test.now) c.args.answer kept) (length-map c.in_ok-kept-in-Locales.kept.items locale_number ∙ none))

pub returns-in_ok-new-in-Locales : goal.returns-in_ok-new-in-Locales
returns-in_ok-new-in-Locales c =
    let items : List Locale = c.in-Locales.locales.value.items in
    let kept : c.in_ok-kept-in-Locales.kept.items ≡ filter (λ l. gives (test_of c.args.test.now) c.args.answer (locale_number l)) items = rw (c.as_slice-in-Locales.ensures.value, c.as_ref-in-Locales.ensures) at c.in_ok-kept-in-Locales.ensures in
    let some : 0 < length c.in_ok-kept-in-Locales.kept.items = grind (arith, nat_tests, c.is_empty-in-Locales.ensures, c.if-is_empty-2.false) in
    let counted : length (locale_numbers c.in_ok-kept-in-Locales.kept.items) ≡ length c.in_ok-kept-in-Locales.kept.items = length-map c.in_ok-kept-in-Locales.kept.items locale_number in
    let proper : IsProper (LocalesOf (locale_numbers items)) = subst (λ (s : NumberSet). IsProper (set_of s)) c.in-Locales.is c.requires.proper in
    rw c.in_ok-new-in-Locales.ensures.ok
    (subst (λ (s : NumberSet). IsHalfSet (set_of s) (test_of c.args.test.now) c.args.answer (LocalesOf (locale_numbers c.in_ok-kept-in-Locales.kept.items))) (sym c.in-Locales.is)
    (locales-half (locale_numbers items) (locale_numbers c.in_ok-kept-in-Locales.kept.items) (test_of c.args.test.now) c.args.answer proper
    (locales-kept items c.in_ok-kept-in-Locales.kept.items (test_of c.args.test.now) c.args.answer kept) (omega arith)))
