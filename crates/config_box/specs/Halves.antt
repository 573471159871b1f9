-- The halves of a box by a test.
use Rattle.std.specs.Prelude.{◌≡◌, ◌↔◌, ◌⊎◌, ℕ, Bool, true, false, List}
use Rattle.box_answers.specs.config_record.declared.coord.Coord.{Coord}
use Rattle.box_answers.specs.NumberSet.{SetOf}
use Rattle.box_answers.specs.Members.{set_at, IsMember, IsBox}
use Rattle.box_answers.specs.MemberAnswers.{AllAnswer, IsOneThatAnswers}
use Rattle.config_box.specs.declared.split.Split.{Split}
use Rattle.config_box.specs.declared.split.Split.TheVariants.{Halves, WrongKind, EmptyHalf}
use Rattle.config_box.specs.Marks.{AreMarkedAlike}
use Rattle.config_box.specs.Tests.{TestOf, answers, has_wrong_kind}

-- a box, so never without members: those that give this answer, each coordinate marked as before
pub record IsHalf (box : List SetOf) (test : TestOf) (answer : Bool) (half : List SetOf) : Type 0 where
  pub is_box : IsBox half
  pub members : (d : List ℕ) → IsMember half d ↔ IsOneThatAnswers (IsMember box) (answers test) answer d
  pub marks : (c : Coord) → AreMarkedAlike (set_at box c) (set_at half c)

-- two halves; or the test is of a wrong kind; else one half would have no member
abbrev pub IsSplit : List SetOf → TestOf → Split → Type 0
IsSplit box test (Halves yes_half no_half) = (has_wrong_kind box test ≡ false) × IsHalf box test true yes_half × IsHalf box test false no_half
IsSplit box test WrongKind = has_wrong_kind box test ≡ true
IsSplit box test EmptyHalf = (has_wrong_kind box test ≡ false) × (AllAnswer (IsMember box) (answers test) true ⊎ AllAnswer (IsMember box) (answers test) false)

-- What all members of a box answer, whatever is asked, all members of the other answer too.
abbrev pub KeepsAnswers : List SetOf → List SetOf → Type 0
KeepsAnswers box half = (asks : List ℕ → Bool) (answer : Bool) → AllAnswer (IsMember box) asks answer → AllAnswer (IsMember half) asks answer

-- the same of a box and its halves
abbrev pub HalvesKeepAnswers : List SetOf → Split → Type 0
HalvesKeepAnswers box (Halves yes_half no_half) = KeepsAnswers box yes_half × KeepsAnswers box no_half
HalvesKeepAnswers box WrongKind = Unit {0}
HalvesKeepAnswers box EmptyHalf = Unit {0}
