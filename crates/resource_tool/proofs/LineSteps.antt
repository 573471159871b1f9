-- How a loop makes the lines of a tree, one after the other.
use Rattle.std.proofs.Common.{◌≡◌, ℕ, ◌+◌, ◌<◌, ◌≤◌, List, [], ◌∷◌, ◌++◌, map, length, drop, get_or, refl, sym, ap, ◌∙◌, append_assoc}
use Rattle.std.proofs.lemmas.List.{drop_more, drop_all, map-append, append-nil}
use Rattle.command_base.specs.cert_tree.declared.node.Node.{Node}
use Rattle.command_base.specs.cert_tree.Certificate.{NodeOf, node_of}
use Rattle.resource_tool.specs.declared.show.path_end.PathEnd.{PathEnd}
use Rattle.resource_tool.specs.declared.show.tree_lines.TreeLine.{TreeLine}
use Rattle.resource_tool.specs.TreeLines.{LineOf, Missing, start, line_at, open_behind, lines_from, tree_lines}
use Rattle.resource_tool.specs.TreeLinesSeen.{line_of}

pub lines_from-node : (number : ℕ) (paths : List PathEnd) (node : NodeOf) (nodes : List NodeOf)
    → lines_from number paths (node ∷ nodes) ≡ line_at number paths node ∷ lines_from (number + 1) (open_behind number paths node) nodes
unfolding lines_from
lines_from-node number paths node nodes = refl

pub lines_from-end : (number : ℕ) (paths : List PathEnd) → lines_from number paths [] ≡ map Missing paths
unfolding lines_from
lines_from-end number paths = refl

-- a list with one more item, seen by a view, and what stands behind it
pub one_more : {X Y : Type 0} (view : X → Y) (xs new : List X) (x : X) (ys : List Y) → new ≡ xs ++ x ∷ [] → map view new ++ ys ≡ map view xs ++ view x ∷ ys
one_more {X} {Y} view xs new x ys pushed =
    ap (λ (t : List X). map view t ++ ys) pushed
    ∙ ap (λ (t : List Y). t ++ ys) (map-append view xs (x ∷ []))
    ∙ append_assoc (map view xs) (view x ∷ []) ys

-- these are the lines of all nodes but of those from a place on, where these paths are open
pub record LinesAllBut (lines : List TreeLine) (paths : List PathEnd) (place : ℕ) (nodes : List Node) : Type 0 where
  pub others : map line_of lines ++ lines_from place paths (map node_of (drop place nodes)) ≡ tree_lines (map node_of nodes)

pub LinesAllBut-none : (paths : List PathEnd) (nodes : List Node) → paths ≡ start ∷ [] → LinesAllBut [] paths 0 nodes
LinesAllBut-none paths nodes begun = record { others = ap (λ (p : List PathEnd). lines_from 0 p (map node_of nodes)) begun }

pub LinesAllBut-next : (lines new : List TreeLine) (paths behind : List PathEnd) (place : ℕ) (nodes : List Node) (line : TreeLine) (d : Node)
    → LinesAllBut lines paths place nodes → place < length nodes → new ≡ lines ++ line ∷ []
    → line_of line ≡ line_at place paths (node_of (get_or nodes place d)) → behind ≡ open_behind place paths (node_of (get_or nodes place d))
    → LinesAllBut new behind (place + 1) nodes
LinesAllBut-next lines new paths behind place nodes line d before on pushed is opened =
    let node = node_of (get_or nodes place d) in
    let left = map node_of (drop (place + 1) nodes) in
    record {
      others =
          one_more line_of lines new line (lines_from (place + 1) behind left) pushed
          ∙ ap (λ (t : LineOf). map line_of lines ++ t ∷ lines_from (place + 1) behind left) is
          ∙ ap (λ (p : List PathEnd). map line_of lines ++ line_at place paths node ∷ lines_from (place + 1) p left) opened
          ∙ ap (λ (t : List LineOf). map line_of lines ++ t) (sym (lines_from-node place paths node left))
          ∙ ap (λ (t : List Node). map line_of lines ++ lines_from place paths (map node_of t)) (sym (drop_more nodes place d on))
          ∙ before.others;
    }

pub LinesAllBut-end : (lines new : List TreeLine) (paths : List PathEnd) (place : ℕ) (nodes : List Node) → LinesAllBut lines paths place nodes → length nodes ≤ place
    → map line_of new ≡ map line_of lines ++ map Missing paths → map line_of new ≡ tree_lines (map node_of nodes)
LinesAllBut-end lines new paths place nodes before past pushed =
    pushed
    ∙ ap (λ (t : List LineOf). map line_of lines ++ t) (sym (lines_from-end place paths))
    ∙ ap (λ (t : List Node). map line_of lines ++ lines_from place paths (map node_of t)) (sym (drop_all place nodes past))
    ∙ before.others

-- ---- the paths without a node

-- these are the old lines and those of all paths but of what is left
pub record MissingAllBut (old lines : List TreeLine) (left all : List PathEnd) : Type 0 where
  pub others : map line_of lines ++ map Missing left ≡ map line_of old ++ map Missing all

pub MissingAllBut-none : (old : List TreeLine) (all : List PathEnd) → MissingAllBut old old all all
MissingAllBut-none old all = record { others = refl }

pub MissingAllBut-next : (old lines new : List TreeLine) (left others all : List PathEnd) (path : PathEnd) (line : TreeLine)
    → MissingAllBut old lines left all → left ≡ path ∷ others → new ≡ lines ++ line ∷ [] → line_of line ≡ Missing path → MissingAllBut old new others all
MissingAllBut-next old lines new left others all path line before split pushed is = record {
  others =
      one_more line_of lines new line (map Missing others) pushed
      ∙ ap (λ (t : LineOf). map line_of lines ++ t ∷ map Missing others) is
      ∙ ap (λ (t : List PathEnd). map line_of lines ++ map Missing t) (sym split)
      ∙ before.others;
}

pub MissingAllBut-end : (old lines : List TreeLine) (left all : List PathEnd) → MissingAllBut old lines left all → left ≡ []
    → map line_of lines ≡ map line_of old ++ map Missing all
MissingAllBut-end old lines left all before nothing =
    sym (append-nil (map line_of lines)) ∙ ap (λ (t : List PathEnd). map line_of lines ++ map Missing t) (sym nothing) ∙ before.others

pub ruleset line_steps = (LinesAllBut-none, LinesAllBut-next, LinesAllBut-end, MissingAllBut-none, MissingAllBut-next, MissingAllBut-end)
