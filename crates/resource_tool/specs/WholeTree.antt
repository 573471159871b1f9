-- What is shown of a list of nodes that is a whole tree.
use Rattle.std.specs.Prelude.{◌≡◌, ℕ, ◌+◌, List, [], ◌∷◌, ◌++◌, length}
use Rattle.command_base.specs.cert_tree.config_box.Tests.{TestOf}
use Rattle.command_base.specs.cert_tree.res_value.declared.res_id.ResId.{ResId}
use Rattle.command_base.specs.cert_tree.res_value.declared.value.Value.{Value}
use Rattle.command_base.specs.cert_tree.Certificate.{NodeOf, TestAt, ValueAt, BagAt}
use Rattle.resource_tool.specs.declared.show.path_end.PathEnd.{PathEnd}
use Rattle.resource_tool.specs.TreeLines.{LineOf, NodeAt, start, behind_yes, behind_no, tree_lines}

-- a value of a layer, or a bag; or a test, with the tree behind its answer yes and that behind its answer no
pub data Tree : Type 0 where
  ValueLeaf : ℕ → Value → Tree
  BagLeaf : ResId → Tree
  Fork : TestOf → Tree → Tree → Tree

-- the list of its nodes, each test before what stands behind its answer yes, and that before what stands behind no
abbrev pub nodes_of : Tree → List NodeOf
nodes_of (ValueLeaf layer value) = ValueAt layer value ∷ []
nodes_of (BagLeaf id) = BagAt id ∷ []
nodes_of (Fork test first second) = TestAt test ∷ nodes_of first ++ nodes_of second

-- its lines, where its first node has this number and stands at the end of this path
abbrev pub lines_of : ℕ → PathEnd → Tree → List LineOf
lines_of number path (ValueLeaf layer value) = NodeAt number path (ValueAt layer value) ∷ []
lines_of number path (BagLeaf id) = NodeAt number path (BagAt id) ∷ []
lines_of number path (Fork test first second) =
    NodeAt number path (TestAt test)
    ∷ (lines_of (number + 1) (behind_yes number path) first ++ lines_of (number + 1 + length (nodes_of first)) (behind_no number path) second)

-- each whole tree is shown as such
abbrev pub WholeTreesAreShown : Type 0
WholeTreesAreShown = (tree : Tree) → tree_lines (nodes_of tree) ≡ lines_of 0 start tree
