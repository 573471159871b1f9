use Rattle.std.proofs.Common.{◌≡◌, ◌+◌, ◌*◌, ◌^◌, ◌≤◌, map, drop}
use Rattle.cert_maker.specs.cert_tree.Certificate.{goal_of, node_count}
use Rattle.resource_text.proofs.verdict.node_count.Given as goal

-- the count so far and that of the goals that are left are the whole
abbrev pub invariant-loop-goal : goal.invariant-loop-goal
invariant-loop-goal l = record {
  all : l.count + node_count (map goal_of (drop l.goal-index l.goal-items)) ≡ node_count (map goal_of l.goal-items);
  few : l.count ≤ l.goal-index * 2 ^ 63;
}
