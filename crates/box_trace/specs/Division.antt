-- Where do traces part? Of each candidate of the look-ups in turn a device is asked whether it matches and, where it
-- does, whether it takes over from the best before it. Members are the devices of which a predicate holds, such as those of
-- a box.
use Rattle.std.specs.Prelude.{◌≡◌, ◌⊎◌, ℕ, Bool, true, false, IsTrue, List, ◌∷◌, ◌++◌}
use Rattle.config_box.specs.box_answers.MemberAnswers.{AllAnswer}
use Rattle.bags_themes.specs.reference_resolver.declared.step.Step.{Step}
use Rattle.bags_themes.specs.reference_resolver.declared.step.Step.TheVariants.{NoMatch, KeptOut, TookOver}

-- whether a candidate matches that does this
abbrev pub has_matched : Step → Bool
has_matched NoMatch = false
has_matched KeptOut = true
has_matched TookOver = true

-- whether it takes over
abbrev pub has_taken_over : Step → Bool
has_taken_over NoMatch = false
has_taken_over KeptOut = false
has_taken_over TookOver = true

-- One question about a candidate divides two members; `step d` is what the candidate does at a device. The first
-- answers yes, the second no: it matches the first and not the second; or it matches all members, and takes over at the
-- first and not at the second.
abbrev pub DividesAt : (List ℕ → Type 0) → (List ℕ → Step) → List ℕ → List ℕ → Type 0
DividesAt members step x y =
    (IsTrue (has_matched (step x)) × (step y ≡ NoMatch))
    ⊎ (AllAnswer members (λ d. has_matched (step d)) true × (step x ≡ TookOver) × (step y ≡ KeptOut))

-- All members come to a candidate by the same steps, and it divides the two.
pub record Divides (members : List ℕ → Type 0) (steps : List ℕ → List Step) (x y : List ℕ) : Type 0 where
  pub before : List Step
  pub step : List ℕ → Step
  pub after : List ℕ → List Step
  pub same : (d : List ℕ) → members d → steps d ≡ before ++ step d ∷ after d
  pub divides : DividesAt members step x y
