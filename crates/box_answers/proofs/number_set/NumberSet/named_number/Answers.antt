use Rattle.std.proofs.Common.{ℕ, ◌<◌, length, subst}
use Rattle.std.proofs.lemmas.List.{length-map}
use Rattle.box_answers.specs.NumberSet.{locale_numbers}
use Rattle.box_answers.proofs.number_set.NumberSet.named_number.Goals as goal

pub bounds-as_slice-place-in-Locales : goal.bounds-as_slice-place-in-Locales
bounds-as_slice-place-in-Locales c =
    let place : c.args.place < length (locale_numbers c.in-Locales.locales.value.items) = rw c.in-Locales.is at c.requires in
    rw (c.as_slice-in-Locales.ensures.value, c.as_ref-in-Locales.ensures) (subst (λ (n : ℕ). c.args.place < n) (length-map c.in-Locales.locales.value.items _) place)
