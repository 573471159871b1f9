use Rattle.std.proofs.Common.{◌-◌, List}
use Rattle.cert_maker.specs.box_answers.NumberSet.{SetOf}
use Rattle.stack_diff.specs.PairBox.{members_open, AreOpen, AreWhole}
use Rattle.stack_diff.proofs.Walks.{Going}
use Rattle.stack_diff.proofs.tree.grow_nodes.Given as goal

abbrev pub invariant-boxes : goal.invariant-boxes
invariant-boxes l = record {
  are_open : AreOpen l.pair l.open_boxes;
  going : (sets : List SetOf) → AreWhole l.pair sets l.fn.open_boxes → Going l.pair sets (members_open l.open_boxes) l.told.items l.nodes;
}

abbrev pub decreases-boxes : goal.decreases-boxes
decreases-boxes l = l.fn.most - l.nodes
