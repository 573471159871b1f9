use Rattle.std.proofs.Common.{◌≡◌, List, ap, sym, ◌∙◌}
use Rattle.box_answers.specs.config_record.locales.declared.locale.Locale.{Locale}
use Rattle.box_answers.specs.NumberSet.{NumbersOf, LocalesOf, set_of, locale_numbers}
use Rattle.config_box.proofs.joined_sets.joined_set.Goals as goal

pub returns-in-Numbers-Numbers : goal.returns-in-Numbers-Numbers
returns-in-Numbers-Numbers c =
    let first : set_of c.args.set.now ≡ NumbersOf c.as_slice.result.now = ap set_of c.in-Numbers-Numbers.is-0 ∙ ap NumbersOf (sym (c.as_slice.ensures.value ∙ ap (λ v. v.items) c.as_ref.ensures)) in
    let second : set_of c.args.other.now ≡ NumbersOf c.as_slice-in-Numbers-Numbers.result.now = ap set_of c.in-Numbers-Numbers.is-1 ∙ ap NumbersOf (sym (c.as_slice-in-Numbers-Numbers.ensures.value ∙ ap (λ v. v.items) c.as_ref-in-Numbers-Numbers.ensures)) in
    rw (first, second) c.joined_choice.ensures

pub returns-in-Locales-Locales : goal.returns-in-Locales-Locales
returns-in-Locales-Locales c =
    let seen = λ (ls : List Locale). LocalesOf (locale_numbers ls) in
    let first : set_of c.args.set.now ≡ LocalesOf (locale_numbers c.as_slice-in-Locales-Locales.result.now) = ap set_of c.in-Locales-Locales.is-0 ∙ ap seen (sym (c.as_slice-in-Locales-Locales.ensures.value ∙ ap (λ v. v.items) c.as_ref-in-Locales-Locales.ensures)) in
    let second : set_of c.args.other.now ≡ LocalesOf (locale_numbers c.as_slice-in-Locales-Locales-2.result.now) = ap set_of c.in-Locales-Locales.is-1 ∙ ap seen (sym (c.as_slice-in-Locales-Locales-2.ensures.value ∙ ap (λ v. v.items) c.as_ref-in-Locales-Locales-2.ensures)) in
    rw (first, second) c.joined_locales.ensures
