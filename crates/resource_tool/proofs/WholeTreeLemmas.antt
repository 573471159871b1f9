-- The lines of a list that begins with the nodes of a whole tree begin with those of the tree.
use Rattle.std.proofs.Common.{◌≡◌, ℕ, ◌+◌, List, [], ◌∷◌, ◌++◌, length, sym, ap, ◌∙◌, append_assoc, length-append, arith}
use Rattle.std.proofs.lemmas.List.{append-nil}
use Rattle.command_base.specs.cert_tree.Certificate.{NodeOf, TestAt, ValueAt, BagAt}
use Rattle.resource_tool.specs.declared.show.path_end.PathEnd.{PathEnd}
use Rattle.resource_tool.specs.TreeLines.{LineOf, NodeAt, start, behind_yes, behind_no, lines_from}
use Rattle.resource_tool.specs.WholeTree.{Tree, ValueLeaf, BagLeaf, Fork, nodes_of, lines_of, WholeTreesAreShown}
use Rattle.resource_tool.proofs.LineSteps.{lines_from-node, lines_from-end}

tree_first : (tree : Tree) (number : ℕ) (path : PathEnd) (paths : List PathEnd) (others : List NodeOf)
    → lines_from number (path ∷ paths) (nodes_of tree ++ others) ≡ lines_of number path tree ++ lines_from (number + length (nodes_of tree)) paths others
tree_first (ValueLeaf layer value) number path paths others = lines_from-node number (path ∷ paths) (ValueAt layer value) others
tree_first (BagLeaf id) number path paths others = lines_from-node number (path ∷ paths) (BagAt id) others
tree_first (Fork test first second) number path paths others =
    let in_yes = behind_yes number path in
    let in_no = behind_no number path in
    let place = number + 1 + length (nodes_of first) in
    let first_lines = lines_of (number + 1) in_yes first in
    let second_lines = lines_of place in_no second in
    let end : place + length (nodes_of second) ≡ number + length (nodes_of (Fork test first second)) = omega (arith, length-append (nodes_of first) (nodes_of second)) in
    lines_from-node number (path ∷ paths) (TestAt test) ((nodes_of first ++ nodes_of second) ++ others)
    ∙ ap (λ (t : List LineOf). NodeAt number path (TestAt test) ∷ t)
    (ap (λ (t : List NodeOf). lines_from (number + 1) (in_yes ∷ in_no ∷ paths) t) (append_assoc (nodes_of first) (nodes_of second) others)
    ∙ tree_first first (number + 1) in_yes (in_no ∷ paths) (nodes_of second ++ others)
    ∙ ap (λ (t : List LineOf). first_lines ++ t) (tree_first second place in_no paths others ∙ ap (λ (k : ℕ). second_lines ++ lines_from k paths others) end)
    ∙ sym (append_assoc first_lines second_lines (lines_from (number + length (nodes_of (Fork test first second))) paths others)))

pub whole_trees : WholeTreesAreShown
whole_trees tree =
    ap (λ (t : List NodeOf). lines_from 0 (start ∷ []) t) (sym (append-nil (nodes_of tree)))
    ∙ tree_first tree 0 start [] []
    ∙ ap (λ (t : List LineOf). lines_of 0 start tree ++ t) (lines_from-end (0 + length (nodes_of tree)) [])
    ∙ append-nil (lines_of 0 start tree)
