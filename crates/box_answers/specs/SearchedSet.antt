-- What a search needs of a set of numbers. (Cited by contracts of this crate alone.)
use Rattle.std.specs.Prelude.{ℕ, ◌≤◌, min, max}
use Rattle.box_answers.specs.NumberSet.{SetOf, IsIn}

pub record IsGreatestIn (set : SetOf) (n : ℕ) : Type 0 where
  pub is_in : IsIn set n
  pub above : (m : ℕ) → IsIn set m → m ≤ n

-- what lies between two numbers of the set is one of it
abbrev pub IsConvex : SetOf → Type 0
IsConvex set = (m n k : ℕ) → IsIn set m → IsIn set n → min m n ≤ k → k ≤ max m n → IsIn set k
