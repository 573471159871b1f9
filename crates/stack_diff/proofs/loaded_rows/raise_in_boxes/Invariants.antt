use Rattle.std.proofs.Common.{◌≡◌, ◌≤◌, ◌-◌, List, [], ◌∷◌}
use Rattle.std.specs.List.{All}
use Rattle.config_box.specs.box_answers.NumberSet.{SetOf}
use Rattle.config_box.specs.box_answers.Members.{IsBox}
use Rattle.cert_maker.specs.cert_checker.box_trace.OpenBox.{boxes_of}
use Rattle.stack_diff.specs.LayersSeen.{loads_of}
use Rattle.stack_diff.specs.LookUpBoxes.{trace_of_look_up, IsOpenFor}
use Rattle.stack_diff.specs.Raising.{level_of, cells_of, KeepsReach, loaded_more}
use Rattle.stack_diff.proofs.PartingTree.{Going}
use Rattle.stack_diff.proofs.loaded_rows.raise_in_boxes.Given as goal

abbrev pub invariant-boxes : goal.invariant-boxes
invariant-boxes l = record {
  open_for : All (IsOpenFor l.stack l.look_up) l.open_boxes;
  keeps : KeepsReach (cells_of l.fn.uses) (loaded_more (loads_of l.look_up) (level_of l.fn.to) (boxes_of l.fn.open_boxes)) (cells_of l.uses) (loaded_more (loads_of l.look_up) (level_of l.fn.to) (boxes_of l.open_boxes));
  within : l.left ≤ l.fn.left;
  going : (sets : List SetOf) → IsBox sets → boxes_of l.fn.open_boxes ≡ sets ∷ [] → Going (trace_of_look_up l.look_up) sets (boxes_of l.open_boxes) (l.fn.left - l.left);
}

abbrev pub decreases-boxes : goal.decreases-boxes
decreases-boxes l = l.left
