use Rattle.std.proofs.Common.{◌≡◌, ◌≤◌, drop, length}
use Rattle.std.specs.Ordering.{nat_cmp}
use Rattle.std.specs.Cmp.Lexicographic.{slice_cmp}
use Rattle.box_answers.specs.NumberSet.{locale_numbers}
use Rattle.config_box.proofs.order.locale_order.Given as goal

-- those that are left decide
abbrev pub invariant-loop-place : goal.invariant-loop-place
invariant-loop-place l = record {
  left : slice_cmp nat_cmp (drop l.place (locale_numbers l.locales)) (drop l.place (locale_numbers l.others)) ≡ slice_cmp nat_cmp (locale_numbers l.locales) (locale_numbers l.others);
  within : l.place ≤ length l.others;
}
