-- The halves of a set of numbers by a test.
use Rattle.std.specs.Prelude.{◌≡◌, ◌≢◌, ◌≤◌, ◌↔◌, ℕ, Bool, true, false, not, length}
use Rattle.box_answers.specs.NumberSet.{SetOf, RangeOf, NumbersOf, LocalesOf, IsIn, IsProper, named_numbers}
use Rattle.config_box.specs.Marks.{AreMarkedAlike}
use Rattle.config_box.specs.Tests.{TestOf, AtMostOf, AmongOf, passes}

-- a range is asked only whether its numbers are at most a bound
abbrev pub IsAskable : SetOf → TestOf → Type 0
IsAskable (RangeOf low high) (AtMostOf c most) = Unit {0}
IsAskable (RangeOf low high) (AmongOf c choice) = ⊥
IsAskable (NumbersOf numbers) test = Unit {0}
IsAskable (LocalesOf numbers) test = Unit {0}

-- a number gives this answer
abbrev pub gives : TestOf → Bool → ℕ → Bool
gives test true n = passes test n
gives test false n = not (passes test n)

-- no number of the set does
abbrev pub NoneAnswers : SetOf → TestOf → Bool → Type 0
NoneAnswers set test answer = (n : ℕ) → IsIn set n → passes test n ≢ answer

-- the numbers that give it, kept as they were
pub record IsHalfSet (set : SetOf) (test : TestOf) (answer : Bool) (half : SetOf) : Type 0 where
  pub numbers : (n : ℕ) → IsIn half n ↔ (IsIn set n × (passes test n ≡ answer))
  pub mark : AreMarkedAlike set half
  pub proper : IsProper half
  pub few : length (named_numbers half) ≤ length (named_numbers set)
