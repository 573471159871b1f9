use Rattle.std.proofs.Common.{◌≡◌, drop}
use Rattle.std.specs.Cmp.Lexicographic.{slice_cmp}
use Rattle.box_answers.specs.Members.{sets_of}
use Rattle.config_box.specs.Order.{set_order}
use Rattle.config_box.proofs.order.order.Given as goal

-- those that are left decide
abbrev pub invariant-loop-place : goal.invariant-loop-place
invariant-loop-place l = slice_cmp set_order (drop l.place (sets_of l.sets)) (drop l.place (sets_of l.others)) ≡ slice_cmp set_order (sets_of l.sets) (sets_of l.others)
