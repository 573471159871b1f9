-- The goals and nodes that are read, each after those before it.
use Rattle.std.proofs.Common.{◌≡◌, ℕ, ◌+◌, List, [], ◌∷◌, ◌++◌, map, length, ap, ◌∙◌, arith}
use Rattle.std.proofs.lemmas.List.{length-map, map-append}
use Rattle.cert_tree.specs.declared.cert.CertGoal.{CertGoal}
use Rattle.cert_tree.specs.Certificate.{GoalOf, node_of, goal_of, node_count}

pub count-push : (goals : List GoalOf) (g : GoalOf) → node_count (goals ++ g ∷ []) ≡ node_count goals + length g.nodes
count-push [] g = omega arith
count-push (first ∷ goals) g = let e : node_count (goals ++ g ∷ []) ≡ node_count goals + length g.nodes = count-push goals g in omega arith

pub count-next : (goals : List CertGoal) (g : CertGoal) → node_count (map goal_of (goals ++ g ∷ [])) ≡ node_count (map goal_of goals) + length g.nodes.items
count-next goals g =
    ap node_count (map-append goal_of goals (g ∷ []))
    ∙ count-push (map goal_of goals) (goal_of g)
    ∙ ap (λ (k : ℕ). node_count (map goal_of goals) + k) (length-map g.nodes.items node_of)
