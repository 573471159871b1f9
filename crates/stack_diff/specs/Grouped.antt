-- Leaves of one difference as one change. (Cited by contracts of this crate alone.)
use Rattle.std.specs.Prelude.{◌≡◌, ◌⊎◌, ◌<◌, List, [], map, length, ◌∷◌, ◌++◌}
use Rattle.std.specs.List.{All, AllPairs, AllZip}
use Rattle.cert_maker.specs.box_answers.NumberSet.{SetOf}
use Rattle.cert_maker.specs.box_answers.Members.{SomeMember}
use Rattle.config_box.specs.Devices.{KeepDevices}
use Rattle.config_box.specs.Kinds.{IsOfKinds, KeepKinds}
use Rattle.config_box.specs.Least.{IsLeast}
use Rattle.stack_diff.specs.declared.difference.Difference.{Difference}
use Rattle.stack_diff.specs.DifferenceSeen.{difference_of}
use Rattle.stack_diff.specs.declared.pair.Pair.{Pair}
use Rattle.stack_diff.specs.declared.change.Change.{Change}
use Rattle.stack_diff.specs.declared.tree.Leaf.{Leaf}
use Rattle.stack_diff.specs.Sides.{pair_differs}
use Rattle.stack_diff.specs.Once.{KeepsEach}
use Rattle.stack_diff.specs.Changes.{ChangeOf, change_of, IsReal, boxes_in}
use Rattle.stack_diff.specs.Fewest.{TellOther}
use Rattle.stack_diff.specs.Tree.{IsRight, boxes_told}

-- ---- differences

abbrev pub differences_in : List Change → List Difference
differences_in changes = map (λ change. change.difference.value) changes

abbrev pub differences_told : List Leaf → List Difference
differences_told leaves = map (λ leaf. leaf.difference.value) leaves

-- both are one
abbrev pub AreOne : Difference → Difference → Type 0
AreOne difference other = difference_of difference ≡ difference_of other

-- one that is the last already; or else one more
abbrev pub AddsDifference : Difference → List Difference → List Difference → Type 0
AddsDifference difference old new =
    ((new ≡ old) × ((front : List Difference) × (last : Difference) × (old ≡ front ++ last ∷ []) × AreOne last difference))
    ⊎ ((new ≡ old ++ difference ∷ []) × ((front : List Difference) (last : Difference) → old ≡ front ++ last ∷ [] → AreOne last difference → ⊥))

-- ---- leaves are gathered

-- it is so, on boxes of the whole box's kinds
pub record IsGathered (pair : Pair) (sets : List SetOf) (change : ChangeOf) : Type 0 where
  pub real : IsReal (pair_differs pair) sets change
  pub kinds : All (IsOfKinds sets) change.boxes

abbrev pub AreGathered : Pair → List SetOf → List Change → Type 0
AreGathered pair sets changes = All (IsGathered pair sets) (map change_of changes)

-- one leaf more: the devices of its members are among those of the changes, and what is told is still so
pub record AddsLeafTo (leaf : Leaf) (old new : List Change) : Type 0 where
  pub devices : KeepsEach (leaf.members ∷ boxes_in (map change_of old)) (boxes_in (map change_of new))
  pub gathered : (pair : Pair) (sets : List SetOf) → IsRight pair sets leaf → AreGathered pair sets old → AreGathered pair sets new
  pub differences : AddsDifference leaf.difference.value (differences_in old) (differences_in new)

-- all leaves, each difference once
pub record GatherLeaves (told : List Leaf) (changes : List Change) : Type 0 where
  pub devices : KeepsEach (boxes_told told) (boxes_in (map change_of changes))
  pub gathered : (pair : Pair) (sets : List SetOf) → All (IsRight pair sets) told → AreGathered pair sets changes
  pub apart : AllPairs TellOther (map change_of changes)

-- ---- boxes are joined

-- those of a change, where they make one
pub record JoinsBoxes (old new : Change) : Type 0 where
  pub difference : new.difference ≡ old.difference
  pub devices : KeepDevices old.boxes.items new.boxes.items
  pub some : 0 < length old.boxes.items → 0 < length new.boxes.items
  pub none_empty : All SomeMember new.boxes.items
  pub kinds : KeepKinds old.boxes.items new.boxes.items
  pub least : IsLeast old.boxes.items new.boxes.items

-- all leaves are gathered, and then the boxes of each change are joined
pub record Groups (told : List Leaf) (changes : List Change) : Type 0 where
  pub gathered : List Change
  pub gathers : GatherLeaves told gathered
  pub joins : AllZip JoinsBoxes gathered changes
