use Rattle.std.proofs.Common.{◌≡◌, ◌-◌, ◌≤◌, length, map}
use Rattle.cert_tree.specs.Certificate.{goal_of, node_count, most_nodes}
use Rattle.cert_tree.proofs.GoalsSteps.{GoalsWalked}
use Rattle.cert_tree.proofs.goal_list.read_goals.Given as goal

abbrev pub invariant-goals : goal.invariant-goals
invariant-goals l =
    GoalsWalked l.rule (l.depth - 1) l.initial.tokens (map goal_of l.goals.items) l.first_other l.tokens × (l.nodes_before ≡ node_count (map goal_of l.goals.items))
    × (l.nodes_before ≤ most_nodes) × (length l.tokens ≤ length l.initial.tokens)

abbrev pub decreases-goals : goal.decreases-goals
decreases-goals l = length l.tokens
