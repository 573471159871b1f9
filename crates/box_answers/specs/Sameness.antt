-- Is a question answered alike by all members of a box? If not, by which two that stand side by side?
use Rattle.std.specs.Prelude.{◌≡◌, ◌≢◌, ℕ, ◌+◌, ◌⊎◌, Bool, true, false, List}
use Rattle.config_precedence.specs.config_record.declared.coord.Coord.{Coord}
use Rattle.config_precedence.specs.config_record.ComparedNumber.{device_number}
use Rattle.config_precedence.specs.config_record.DeviceSeen.{device_numbers}
use Rattle.box_answers.specs.declared.sameness.Sameness.{Sameness}
use Rattle.box_answers.specs.declared.sameness.Sameness.TheVariants.{Always, Never, Mixed}
use Rattle.box_answers.specs.NumberSet.{SetOf, RangeOf}
use Rattle.box_answers.specs.Members.{set_at, IsMember}
use Rattle.box_answers.specs.MemberAnswers.{AllAnswer, IsOneThatAnswers}

-- two members that differ in this coordinate alone, of which the first answers yes and the second no
pub record Parts (sets : List SetOf) (asks : List ℕ → Bool) (x y : List ℕ) (c : Coord) : Type 0 where
  pub yes : IsOneThatAnswers (IsMember sets) asks true x
  pub no : IsOneThatAnswers (IsMember sets) asks false y
  pub others : (k : Coord) → k ≢ c → device_number x k ≡ device_number y k

abbrev pub DifferByOne : ℕ → ℕ → Type 0
DifferByOne x y = (x ≡ y + 1) ⊎ (y ≡ x + 1)

-- numbers of a range stand side by side; of a choice there is no such thing
abbrev pub AreNeighbours : SetOf → ℕ → ℕ → Type 0
AreNeighbours (RangeOf low high) x y = DifferByOne x y
AreNeighbours set x y = Unit {0}

pub record Separates (sets : List SetOf) (asks : List ℕ → Bool) (x y : List ℕ) (c : Coord) : Type 0 where
  pub parts : Parts sets asks x y c
  pub near : AreNeighbours (set_at sets c) (device_number x c) (device_number y c)

-- always: all members answer yes; never: all answer no; mixed: two members, as above
abbrev pub IsExact : Sameness → List SetOf → (List ℕ → Bool) → Type 0
IsExact Always sets asks = AllAnswer (IsMember sets) asks true
IsExact Never sets asks = AllAnswer (IsMember sets) asks false
IsExact (Mixed x y c) sets asks = Separates sets asks (device_numbers x) (device_numbers y) c
