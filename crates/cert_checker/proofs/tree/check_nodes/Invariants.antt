use Rattle.std.proofs.Common.{ℕ, List, map}
use Rattle.std.specs.List.{All}
use Rattle.box_trace.specs.reference_resolver.Trace.{Trace}
use Rattle.box_trace.specs.OpenBox.{boxes_of, IsReached}
use Rattle.cert_tree.specs.box_answers.NumberSet.{SetOf}
use Rattle.cert_tree.specs.Certificate.{node_of}
use Rattle.cert_checker.specs.OpenBoxes.{IsWholeBox}
use Rattle.cert_checker.proofs.TreeSteps.{PassedTo}
use Rattle.cert_checker.proofs.tree.check_nodes.Given as goal

abbrev pub invariant-loop-place : goal.invariant-loop-place
invariant-loop-place l =
    (trace : List ℕ → Trace) (sets : List SetOf) → IsWholeBox l.stack trace sets l.fn.open_boxes
    → PassedTo trace sets (map node_of l.nodes) l.place (boxes_of l.open_boxes) × All (IsReached l.stack trace) l.open_boxes
