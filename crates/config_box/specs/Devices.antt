-- How many boxes of a list have a device.
use Rattle.std.specs.Prelude.{◌↔◌, ◌⊎◌, ℕ, List, [], ◌∷◌}
use Rattle.config_box.specs.box_answers.NumberSet.{SetOf}
use Rattle.config_box.specs.box_answers.Members.{IsMember}

-- none of them
abbrev pub HasNone : List ℕ → List (List SetOf) → Type 0
HasNone d [] = Unit {0}
HasNone d (b ∷ bs) = (IsMember b d → ⊥) × HasNone d bs

-- exactly one
abbrev pub HasOnce : List ℕ → List (List SetOf) → Type 0
HasOnce d [] = ⊥
HasOnce d (b ∷ bs) = (IsMember b d × HasNone d bs) ⊎ ((IsMember b d → ⊥) × HasOnce d bs)

-- none of the new boxes has a device just where none of the old has it; and exactly one just where exactly one has it
pub record KeepDevices (old new : List (List SetOf)) : Type 0 where
  pub none : (d : List ℕ) → HasNone d old ↔ HasNone d new
  pub once : (d : List ℕ) → HasOnce d old ↔ HasOnce d new
