-- How the tree of a resource in two stacks grows: node by node, with its open boxes. (Cited by contracts of this crate alone.)
use Rattle.std.specs.Prelude.{◌≡◌, ◌≢◌, ◌⊎◌, ℕ, ◌<◌, ◌≤◌, List, [], ◌∷◌, ◌++◌, map, Option, Some, None}
use Rattle.std.specs.List.{All}
use Rattle.cert_maker.specs.box_answers.NumberSet.{SetOf}
use Rattle.cert_maker.specs.box_answers.Members.{IsMember, IsBox}
use Rattle.stack_diff.specs.DifferenceSeen.{difference_of}
use Rattle.stack_diff.specs.declared.pair.Pair.{Pair}
use Rattle.stack_diff.specs.declared.pair_box.PairBox.{PairBox}
use Rattle.stack_diff.specs.declared.pair_box.PairBoxes.{PairBoxes}
use Rattle.stack_diff.specs.declared.tree.Leaf.{Leaf}
use Rattle.stack_diff.specs.declared.tree.Leaves.{Leaves}
use Rattle.stack_diff.specs.Sides.{pair_differs, pair_traces}
use Rattle.config_box.specs.Devices.{HasOnce}
use Rattle.config_box.specs.Kinds.{IsOfKinds}
use Rattle.stack_diff.specs.Changes.{IsSo}
use Rattle.stack_diff.specs.NeededTree.{HasNeededTree}
use Rattle.stack_diff.specs.AddedNode.{AddsTest}
use Rattle.stack_diff.specs.PairBox.{members_of, members_open, AreOpen}
use Rattle.stack_diff.specs.Parting.{HaveOneTrace}

-- on no member they differ
abbrev pub DoNotDiffer : Pair → List SetOf → Type 0
DoNotDiffer pair sets = (d : List ℕ) → IsMember sets d → pair_differs pair d ≡ None

-- a leaf that tells how they differ on all members
pub record IsLeafOf (pair : Pair) (sets : List SetOf) (leaf : Leaf) : Type 0 where
  pub members : leaf.members ≡ sets
  pub so : (d : List ℕ) → IsMember sets d → pair_differs pair d ≡ Some (difference_of leaf.difference.value)

-- such a leaf, or none where they do not differ
abbrev pub TellsLeaf : Pair → List SetOf → List Leaf → List Leaf → Type 0
TellsLeaf pair sets told new_told =
    ((new_told ≡ told) × DoNotDiffer pair sets) ⊎ ((leaf : Leaf) × (new_told ≡ told ++ leaf ∷ []) × IsLeafOf pair sets leaf)

-- a leaf of the tree, on which all members have one trace
pub record AddsLeaf (pair : Pair) (part : List SetOf) (old new : List (List SetOf)) (told new_told : List Leaf) : Type 0 where
  pub same : new ≡ old
  pub one : HaveOneTrace (IsMember part) (pair_traces pair)
  pub tells : TellsLeaf pair part told new_told

-- a test, or a leaf
abbrev pub AddsPairNode : Pair → List SetOf → List (List SetOf) → List (List SetOf) → List Leaf → List Leaf → Type 0
AddsPairNode pair part old new told new_told =
    (AddsTest (pair_traces pair) part old new × (new_told ≡ told)) ⊎ AddsLeaf pair part old new told new_told

-- and what is open goes on
pub record TakesBox (pair : Pair) (part : PairBox) (old new : PairBoxes) (told new_told : List Leaf) : Type 0 where
  pub node : AddsPairNode pair (members_of part) (members_open old) (members_open new) told new_told
  pub goes_on : AreOpen pair old → AreOpen pair new

-- ---- a whole tree

abbrev pub boxes_told : List Leaf → List (List SetOf)
boxes_told told = map (λ leaf. leaf.members) told

-- on the members of one leaf, which are some of a whole box, they differ so; and they are a box of its kinds
pub record IsRight (pair : Pair) (sets : List SetOf) (leaf : Leaf) : Type 0 where
  pub kinds : IsOfKinds sets leaf.members
  pub so : (d : List ℕ) → IsMember leaf.members d → IsSo (pair_differs pair) sets (difference_of leaf.difference.value) d

-- each leaf is right, in a box; and a device on which they differ comes to one leaf, and to one alone
pub record AreRight (pair : Pair) (sets : List SetOf) (told : List Leaf) : Type 0 where
  pub is_box : IsBox sets
  pub right : All (IsRight pair sets) told
  pub once : (d : List ℕ) → IsMember sets d → pair_differs pair d ≢ None → HasOnce d (boxes_told told)

-- the leaves of such a tree within the limit; or there is one above it
abbrev pub IsGrown : Pair → List SetOf → ℕ → Option Leaves → Type 0
IsGrown pair sets most (Some leaves) =
    AreRight pair sets leaves.told.items × HasNeededTree (pair_traces pair) sets (λ count. count ≡ leaves.nodes) × (leaves.nodes ≤ most)
IsGrown pair sets most None = HasNeededTree (pair_traces pair) sets (λ count. most < count)
