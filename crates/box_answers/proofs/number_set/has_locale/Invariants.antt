use Rattle.std.proofs.Common.{◌≡◌, ◌==◌, drop}
use Rattle.std.specs.List.{list_any}
use Rattle.box_answers.specs.NumberSet.{locale_numbers}
use Rattle.box_answers.proofs.number_set.has_locale.Given as goal

-- the answer is that for the locales that are left
abbrev pub invariant-loop-locale : goal.invariant-loop-locale
invariant-loop-locale l = list_any (λ m. m == l.number) (locale_numbers (drop l.locale-index l.locales)) ≡ list_any (λ m. m == l.number) (locale_numbers l.locales)
