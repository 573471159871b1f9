use Rattle.std.proofs.Common.{◌≡◌, ℕ, ◌<◌, get_or}
use Rattle.box_answers.specs.NumberSet.{set_of}
use Rattle.box_answers.specs.TriedNumbers.{tried_numbers}
use Rattle.box_answers.specs.Condition.{passes_at}
use Rattle.box_answers.proofs.condition.Condition.suiting.Given as goal

-- all numbers so far answer alike
abbrev pub invariant-loop-place : goal.invariant-loop-place
invariant-loop-place l = (k : ℕ) → k < l.place → passes_at l.self (get_or (tried_numbers (set_of l.self.set.now) l.number l.number) k 0) ≡ l.passes
