use Rattle.std.proofs.Common.{◌≡◌, ℕ, ◌<◌, ◌≤◌, get_or}
use Rattle.box_answers.specs.NumberSet.{RangeOf}
use Rattle.box_answers.specs.Members.{sets_of}
use Rattle.config_box.proofs.joined_sets.difference_from.Given as goal

abbrev pub invariant-loop-place : goal.invariant-loop-place
invariant-loop-place l = (k : ℕ) → l.from ≤ k → k < l.place → get_or (sets_of l.sets) k (RangeOf 0 0) ≡ get_or (sets_of l.others) k (RangeOf 0 0)
