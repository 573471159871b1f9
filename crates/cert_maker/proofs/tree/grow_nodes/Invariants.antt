use Rattle.std.proofs.Common.{◌-◌, ◌≤◌, List, length, map, reverse}
use Rattle.std.specs.List.{All}
use Rattle.cert_checker.specs.box_trace.OpenBox.{boxes_of, IsReached}
use Rattle.cert_checker.specs.cert_tree.Certificate.{node_of}
use Rattle.cert_checker.specs.res_value.Goal.{GoalSeen}
use Rattle.cert_checker.specs.box_answers.NumberSet.{SetOf}
use Rattle.cert_checker.specs.FirstFault.{goal_trace}
use Rattle.cert_checker.specs.OpenBoxes.{IsWholeBox}
use Rattle.cert_maker.proofs.Loop.{Going}
use Rattle.cert_maker.proofs.tree.grow_nodes.Given as goal

abbrev pub invariant-boxes : goal.invariant-boxes
invariant-boxes l = record {
  grown : (goal : GoalSeen) (sets : List SetOf) → IsWholeBox l.stack (goal_trace l.stack goal) sets l.fn.open_boxes
      → Going (goal_trace l.stack goal) sets (map node_of l.nodes.items) (reverse (boxes_of l.open_boxes)) × All (IsReached l.stack (goal_trace l.stack goal)) l.open_boxes;
  within : length l.nodes.items ≤ l.fn.most;
}

abbrev pub decreases-boxes : goal.decreases-boxes
decreases-boxes l = l.fn.most - length l.nodes.items
