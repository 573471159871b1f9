use Rattle.std.proofs.Common.{◌≡◌, ◌≤◌, ℕ, length, get_or}
use Rattle.type_entries.specs.WrongSizes.{CountWrong}
use Rattle.type_entries.proofs.bag_checks.wrong_counts.Given as goal

-- the places so far are counted
abbrev pub invariant-loop-place : goal.invariant-loop-place
invariant-loop-place l = record {
  here : length l.counts.items ≡ l.place;
  few : (place : ℕ) → get_or l.counts.items place 0 ≤ place;
  counted : CountWrong l.whole l.counts.items;
}
