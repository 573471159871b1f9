-- What a resource says, and on which devices of a box: a stack is compared with nothing.
use Rattle.std.specs.Prelude.{◌≡◌, ℕ, ◌<◌, List, map, length, Some}
use Rattle.std.specs.List.{All, flat_map}
use Rattle.cert_maker.specs.box_answers.NumberSet.{SetOf}
use Rattle.cert_maker.specs.box_answers.Members.{IsMember, SomeMember}
use Rattle.config_box.specs.Devices.{HasOnce}
use Rattle.answer_text.specs.Content.{ContentOf}
use Rattle.stack_diff.specs.Changes.{ChangeOf}
use Rattle.stack_diff.specs.Difference.{FromNothing}
use Rattle.stack_diff.specs.Fewest.{AreShort}

-- A content, on the devices of these boxes.
pub record SaidOf : Type 0 where
  pub content : ContentOf
  pub boxes : List (List SetOf)

-- there is a box, none is empty, and on each device of each, which is one of the whole box, the resource says this
pub record IsSaid (says : List ℕ → ContentOf) (sets : List SetOf) (said : SaidOf) : Type 0 where
  pub somewhere : 0 < length said.boxes
  pub devices : All SomeMember said.boxes
  pub so : All (λ part. (d : List ℕ) → IsMember part d → IsMember sets d × (says d ≡ said.content)) said.boxes

-- as a change from nothing
abbrev pub change_of_said : SaidOf → ChangeOf
change_of_said said = record { difference = FromNothing said.content; boxes = said.boxes }

-- All that a resource says: each device of the whole box is in one of the boxes, and in one alone; what stands there is what the
-- resource says on it; and it is told as shortly as changes are, each content once and in few boxes.
pub record AreValues (says : List ℕ → ContentOf) (sets : List SetOf) (values : List SaidOf) : Type 0 where
  pub said : All (IsSaid says sets) values
  pub once : (d : List ℕ) → IsMember sets d → HasOnce d (flat_map (λ said. said.boxes) values)
  pub short : AreShort (λ d. Some (FromNothing (says d))) sets (map change_of_said values)
