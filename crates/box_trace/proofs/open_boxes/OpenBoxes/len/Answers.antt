use Rattle.box_trace.proofs.Places.{all_held}
use Rattle.box_trace.proofs.open_boxes.OpenBoxes.len.Goals as goal

pub returns : goal.returns
returns c =
    let held = all_held c.self.inside.places.items c.self.invariant in
    let value = c.len.ensures.value in
    let view = c.self.view_is in
    cc
