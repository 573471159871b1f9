-- What do devices answer of which a predicate holds, such as the members of a box: all of them so, or one of them?
use Rattle.std.specs.Prelude.{◌≡◌, ℕ, Bool, List}

-- all of them answer so
abbrev pub AllAnswer : {X : Type 0} → (List ℕ → Type 0) → (List ℕ → X) → X → Type 0
AllAnswer members asks answer = (d : List ℕ) → members d → asks d ≡ answer

-- it is one of them, and answers so
pub record IsOneThatAnswers (members : List ℕ → Type 0) (asks : List ℕ → Bool) (answer : Bool) (d : List ℕ) : Type 0 where
  pub member : members d
  pub answers : asks d ≡ answer

-- one of them answers so
abbrev pub SomeAnswers : (List ℕ → Type 0) → (List ℕ → Bool) → Bool → Type 0
SomeAnswers members asks answer = (d : List ℕ) × IsOneThatAnswers members asks answer d
