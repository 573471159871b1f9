-- How few boxes tell all changes.
use Rattle.std.specs.Prelude.{◌≢◌, ℕ, ◌≤◌, List, length, Option}
use Rattle.std.specs.List.{All, AllPairs}
use Rattle.cert_maker.specs.cert_checker.config_record.declared.coord.Coord.{Coord}
use Rattle.cert_maker.specs.box_answers.NumberSet.{SetOf}
use Rattle.cert_maker.specs.Runs.{VariesAlone}
use Rattle.config_box.specs.Kinds.{IsOfKinds}
use Rattle.stack_diff.specs.Difference.{DifferenceOf}
use Rattle.stack_diff.specs.Changes.{ChangeOf, AreChanges, boxes_in}

-- not the same difference
abbrev pub TellOther : ChangeOf → ChangeOf → Type 0
TellOther a b = a.difference ≢ b.difference

-- no list of all changes whose boxes are of the whole box's kinds has fewer boxes
abbrev pub HaveFewestBoxes : (List ℕ → Option DifferenceOf) → List SetOf → List ChangeOf → Type 0
HaveFewestBoxes differs sets changes =
    (others : List ChangeOf) → AreChanges differs sets others → All (IsOfKinds sets) (boxes_in others) → length (boxes_in changes) ≤ length (boxes_in others)

-- Each difference is told once, and each box is of the whole box's kinds: it has a range where the whole box has one, and a
-- choice where it has a choice. Where at most one coordinate of the whole box has several values, the boxes are as few as
-- such boxes can be.
pub record AreShort (differs : List ℕ → Option DifferenceOf) (sets : List SetOf) (changes : List ChangeOf) : Type 0 where
  pub apart : AllPairs TellOther changes
  pub kinds : All (IsOfKinds sets) (boxes_in changes)
  pub fewest : (c : Coord) → VariesAlone sets c → HaveFewestBoxes differs sets changes

-- all changes, told in few boxes
abbrev pub AreToldShort : (List ℕ → Option DifferenceOf) → List SetOf → List ChangeOf → Type 0
AreToldShort differs sets changes = AreChanges differs sets changes × AreShort differs sets changes
