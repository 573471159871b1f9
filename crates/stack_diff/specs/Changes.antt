-- How a resource differs in two stacks, and on which devices of a box.
use Rattle.std.specs.Prelude.{◌≡◌, ◌≢◌, ℕ, ◌<◌, List, length, Option, Some, None}
use Rattle.std.specs.List.{All, flat_map}
use Rattle.cert_maker.specs.box_answers.NumberSet.{SetOf}
use Rattle.cert_maker.specs.box_answers.Members.{IsMember, SomeMember}
use Rattle.stack_diff.specs.Difference.{DifferenceOf}
use Rattle.stack_diff.specs.DifferenceSeen.{difference_of}
use Rattle.config_box.specs.Devices.{HasNone, HasOnce}
use Rattle.stack_diff.specs.declared.change.Change.{Change}

-- A difference, on the devices of these boxes.
pub record ChangeOf : Type 0 where
  pub difference : DifferenceOf
  pub boxes : List (List SetOf)

abbrev pub change_of : Change → ChangeOf
change_of change = record { difference = difference_of change.difference.value; boxes = change.boxes.items }

-- on a device of the whole box they differ so
pub record IsSo (differs : List ℕ → Option DifferenceOf) (sets : List SetOf) (difference : DifferenceOf) (d : List ℕ) : Type 0 where
  pub member : IsMember sets d
  pub so : differs d ≡ Some difference

-- nothing is invented: there is a box, none is empty, and it is so on all devices of each
pub record IsReal (differs : List ℕ → Option DifferenceOf) (sets : List SetOf) (change : ChangeOf) : Type 0 where
  pub somewhere : 0 < length change.boxes
  pub devices : All SomeMember change.boxes
  pub so : All (λ part. (d : List ℕ) → IsMember part d → IsSo differs sets change.difference d) change.boxes

-- the boxes of all changes
abbrev pub boxes_in : List ChangeOf → List (List SetOf)
boxes_in changes = flat_map (λ change. change.boxes) changes

-- Nothing is invented. Nothing is missed or told twice: a device of the whole box on which they differ is in one box, and in
-- one alone; and on a device that is in none they do not differ.
pub record AreChanges (differs : List ℕ → Option DifferenceOf) (sets : List SetOf) (changes : List ChangeOf) : Type 0 where
  pub real : All (IsReal differs sets) changes
  pub once : (d : List ℕ) → IsMember sets d → differs d ≢ None → HasOnce d (boxes_in changes)
  pub same : (d : List ℕ) → IsMember sets d → HasNone d (boxes_in changes) → differs d ≡ None
