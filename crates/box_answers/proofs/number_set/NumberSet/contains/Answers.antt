use Rattle.std.proofs.Common.{◌≡◌, ◌==◌, ℕ, List, sym, ◌∙◌}
use Rattle.std.specs.List.{list_any}
use Rattle.box_answers.specs.NumberSet.{locale_numbers}
use Rattle.box_answers.proofs.Sets.{listed-in}
use Rattle.box_answers.proofs.number_set.NumberSet.contains.Goals as goal

pub returns-in-Locales : goal.returns-in-Locales
returns-in-Locales c =
    let numbers : List ℕ = locale_numbers c.in-Locales.locales.value.items in
    let e : c.has_locale.result ≡ list_any (λ m. m == c.args.number) numbers =
    rw (c.as_slice-in-Locales.ensures.value, c.as_ref-in-Locales.ensures) at c.has_locale.ensures in
    let same = listed-in numbers c.args.number in
    rw c.in-Locales.is (λ h. same.0 (sym e ∙ h), λ is. e ∙ same.1 is)

pub returns-in-Numbers : goal.returns-in-Numbers
returns-in-Numbers c =
    let numbers : List ℕ = c.in-Numbers.numbers.value.items in
    let e : c.has_number.result ≡ list_any (λ m. m == c.args.number) numbers = rw (c.as_slice.ensures.value, c.as_ref.ensures) at c.has_number.ensures in
    let same = listed-in numbers c.args.number in
    rw c.in-Numbers.is (λ h. same.0 (sym e ∙ h), λ is. e ∙ same.1 is)
