-- One node more of a tree that parts the members of a box, and what it does to the open boxes. (Cited by contracts of this crate
-- alone.)
use Rattle.std.specs.Prelude.{◌≡◌, ◌⊎◌, ℕ, true, false, List, [], ◌∷◌, ◌++◌}
use Rattle.config_box.specs.box_answers.NumberSet.{SetOf}
use Rattle.config_box.specs.box_answers.Members.{IsMember}
use Rattle.config_box.specs.Tests.{TestOf}
use Rattle.config_box.specs.Halves.{IsHalf}
use Rattle.cert_maker.specs.Needed.{IsNeededTest}
use Rattle.stack_diff.specs.Parting.{HaveOneTrace}

-- a needed test, whose halves are opened
pub record AddsTest {X : Type 0} (trace : List ℕ → X) (part : List SetOf) (old new : List (List SetOf)) : Type 0 where
  pub test : TestOf
  pub needed : IsNeededTest trace part (IsMember part) test
  pub yes_half : List SetOf
  pub no_half : List SetOf
  pub opened : new ≡ old ++ no_half ∷ yes_half ∷ []
  pub yes_members : IsHalf part test true yes_half
  pub no_members : IsHalf part test false no_half

-- or a leaf
abbrev pub AddsNode : {X : Type 0} → (List ℕ → X) → List SetOf → List (List SetOf) → List (List SetOf) → Type 0
AddsNode trace part old new = AddsTest trace part old new ⊎ ((new ≡ old) × HaveOneTrace (IsMember part) trace)
