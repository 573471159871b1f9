-- The nodes of a tree stand in a list: a test, then the tree of its yes half, then that of its no half. A path is the
-- answers that lead to a node, the last one first. Paths are open where the tree goes on; the next node of the list stands
-- at the first of them.
use Rattle.std.specs.Prelude.{◌≡◌, ℕ, Bool, true, false, List, [], ◌∷◌, Option, Some, None, take, slice_get}
use Rattle.box_trace.specs.reference_resolver.declared.end.End.{End}
use Rattle.box_trace.specs.reference_resolver.declared.end.End.TheVariants as ends
use Rattle.cert_tree.specs.box_answers.NumberSet.{SetOf}
use Rattle.cert_tree.specs.box_answers.Members.{IsMember}
use Rattle.cert_tree.specs.config_box.Tests.{TestOf, answers}
use Rattle.cert_tree.specs.Certificate.{NodeOf, TestAt, ValueAt, BagAt}

abbrev pub Path : Type 0
Path = List (TestOf × Bool)

-- a device gives these answers
abbrev pub Follows : List ℕ → Path → Type 0
Follows d [] = Unit {0}
Follows d (step ∷ path) = (answers step.0 d ≡ step.1) × Follows d path

-- the members of a box at the end of a path
abbrev pub IsAt : List SetOf → Path → List ℕ → Type 0
IsAt sets path d = IsMember sets d × Follows d path

-- A test at a path opens two, first the one with yes, before the others. At a leaf the path ends.
abbrev pub after : NodeOf → Path → List Path → List Path
after (TestAt test) path paths = ((test, true) ∷ path) ∷ ((test, false) ∷ path) ∷ paths
after (ValueAt layer value) path paths = paths
after (BagAt id) path paths = paths

-- the paths that are open after nodes, where these were open before them
abbrev pub after_all : List NodeOf → List Path → List Path
after_all [] paths = paths
after_all (node ∷ nodes) [] = []
after_all (node ∷ nodes) (path ∷ paths) = after_all nodes (after node path paths)

-- before the first node one path is open, without an answer
abbrev pub root : List Path
root = [] ∷ []

-- the open paths before a node
unfoldable pub open_at : List NodeOf → ℕ → List Path
open_at nodes k = after_all (take k nodes) root

-- a device follows the first of open paths
abbrev pub FollowsFirst : List ℕ → List Path → Type 0
FollowsFirst d [] = ⊥
FollowsFirst d (path ∷ paths) = Follows d path

-- the members of a box at the first of open paths
abbrev pub IsAtFirst : List SetOf → List Path → List ℕ → Type 0
IsAtFirst sets paths d = IsMember sets d × FollowsFirst d paths

-- the members of a box that come to a node
abbrev pub ComesTo : List SetOf → List NodeOf → ℕ → List ℕ → Type 0
ComesTo sets nodes k d = IsAtFirst sets (open_at nodes k) d

-- where a leaf says that the goal ends; a test says nothing
abbrev pub leaf_end : NodeOf → Option End
leaf_end (TestAt test) = None
leaf_end (ValueAt layer value) = Some (ends.Value layer value)
leaf_end (BagAt id) = Some (ends.Bag id)

-- a device reaches a leaf that says this end
pub record Reaches (nodes : List NodeOf) (d : List ℕ) (end : End) : Type 0 where
  pub place : ℕ
  pub leaf : NodeOf
  pub stands : slice_get nodes place ≡ Some leaf
  pub says : leaf_end leaf ≡ Some end
  pub follows : FollowsFirst d (open_at nodes place)
