use Rattle.std.proofs.Common.{◌≡◌, ℕ, ◌<◌, get_or}
use Rattle.box_answers.specs.NumberSet.{locale_numbers}
use Rattle.config_box.proofs.joined_sets.are_same_locales.Given as goal

abbrev pub invariant-loop-place : goal.invariant-loop-place
invariant-loop-place l = (k : ℕ) → k < l.place → get_or (locale_numbers l.locales) k 0 ≡ get_or (locale_numbers l.others) k 0
