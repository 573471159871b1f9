use Rattle.std.proofs.Common.{◌≡◌, ℕ, ◌<◌, map}
use Rattle.std.specs.Prelude.{slice_get}
use Rattle.cert_tree.specs.Certificate.{goal_of}
use Rattle.cert_tree.specs.res_value.Goal.{goal_seen}
use Rattle.cert_checker.specs.FirstFault.{goals_in}
use Rattle.cert_checker.proofs.goals.first_difference.Given as goal

abbrev pub invariant-loop-place : goal.invariant-loop-place
invariant-loop-place l = (k : ℕ) → k < l.place → slice_get (goals_in (map goal_of l.trees)) k ≡ slice_get (map goal_seen l.asked) k
