use Rattle.std.proofs.Common.{length, map, Some, arith, ap, subst}
use Rattle.std.proofs.lemmas.List.{length-map}
use Rattle.std.proofs.lemmas.List.Elements.{All-pop}
use Rattle.cert_checker.specs.config_record.DeviceSeen.{device_numbers}
use Rattle.cert_checker.specs.cert_tree.Certificate.{node_of}
use Rattle.cert_checker.specs.FirstFault.{goal_trace}
use Rattle.cert_checker.specs.box_trace.declared.open_box.OpenBox.{OpenBox}
use Rattle.cert_checker.specs.box_trace.OpenBox.{boxes_of, IsReached}
use Rattle.cert_checker.proofs.box_trace.OpenBoxSteps.{boxes-push}
use Rattle.cert_maker.specs.Growth.{AddsOrEnds}
use Rattle.cert_maker.proofs.Loop.{started, goes-on, done-passes, done-needed, done-fits, too-large, member-of-whole}
use Rattle.cert_maker.proofs.tree.grow_nodes.Goals as goal

pub boxes-init : goal.boxes-init
boxes-init c =
    let none = c.new-nodes.ensures.items in
    record {
      grown = λ goal sets is. (
        started (goal_trace c.args.stack.now goal) sets (map node_of c.new-nodes.result.items) (boxes_of c.args.open_boxes.now) is.is_box (ap (map node_of) none) is.alone,
        is.reached,
      );
      within = omega (arith, ap length none);
    }

pub returns-in-Some-2 : goal.returns-in-Some-2
returns-in-Some-2 c = λ goal sets is.
    let trace = goal_trace c.args.stack.now goal in
    let before = c.boxes.invariant.grown goal sets is in
    let taken = All-pop (IsReached c.args.stack.now trace) c.boxes.open_boxes c.pop.new.self (Some c.in-Some.part) c.in-Some.ensures.items before.1 in
    let found = subst (AddsOrEnds c.args.stack.now c.in-Some.part c.boxes.nodes.items c.add_node-found.new.nodes.items c.pop.new.self c.add_node-found.new.open_boxes) c.in-Some-2.is c.in_ok-device.ensures trace taken.1 in
    record {
      member = member-of-whole trace sets c.in-Some.part.members (map node_of c.boxes.nodes.items) (boxes_of c.boxes.open_boxes) (boxes_of c.pop.new.self) (device_numbers c.in-Some-2.device)
          (boxes-push _ _ _ c.in-Some.ensures.items) before.0 found.member;
      ends = found.ends;
      no_value = found.no_value;
    }

pub returns-then-len-most : goal.returns-then-len-most
returns-then-len-most c = λ goal sets is.
    let trace = goal_trace c.args.stack.now goal in
    let before = c.boxes.invariant.grown goal sets is in
    let count = length-map c.add_node-found.new.nodes.items node_of in
    let open_count = length-map c.add_node-found.new.open_boxes (λ (part : OpenBox). part.members) in
    let taken = All-pop (IsReached c.args.stack.now trace) c.boxes.open_boxes c.pop.new.self (Some c.in-Some.part) c.in-Some.ensures.items before.1 in
    let grown = (subst (AddsOrEnds c.args.stack.now c.in-Some.part c.boxes.nodes.items c.add_node-found.new.nodes.items c.pop.new.self c.add_node-found.new.open_boxes) c.in_default-2.is c.in_ok-device.ensures).0 goal taken.1 taken.0 in
    too-large trace sets (map node_of c.add_node-found.new.nodes.items) (boxes_of c.add_node-found.new.open_boxes) c.args.most
    (goes-on trace sets c.in-Some.part.members (map node_of c.boxes.nodes.items) (map node_of c.add_node-found.new.nodes.items) (boxes_of c.boxes.open_boxes) (boxes_of c.pop.new.self) (boxes_of c.add_node-found.new.open_boxes)
    (boxes-push _ _ _ c.in-Some.ensures.items) before.0 grown.0)
    (omega (arith, count, open_count))

pub boxes-preserved : goal.boxes-preserved
boxes-preserved c = record {
  grown = λ goal sets is.
      let trace = goal_trace c.args.stack.now goal in
      let before = c.boxes.invariant.grown goal sets is in
      let taken = All-pop (IsReached c.args.stack.now trace) c.boxes.open_boxes c.pop.new.self (Some c.in-Some.part) c.in-Some.ensures.items before.1 in
      let grown = (subst (AddsOrEnds c.args.stack.now c.in-Some.part c.boxes.nodes.items c.add_node-found.new.nodes.items c.pop.new.self c.add_node-found.new.open_boxes) c.in_default-2.is c.in_ok-device.ensures).0 goal taken.1 taken.0 in (
        goes-on trace sets c.in-Some.part.members (map node_of c.boxes.nodes.items) (map node_of c.add_node-found.new.nodes.items) (boxes_of c.boxes.open_boxes) (boxes_of c.pop.new.self) (boxes_of c.add_node-found.new.open_boxes)
            (boxes-push _ _ _ c.in-Some.ensures.items) before.0 grown.0,
        grown.1,
      );
  within = omega arith;
}

pub boxes-smaller : goal.boxes-smaller
boxes-smaller c =
    let added = subst (AddsOrEnds c.args.stack.now c.in-Some.part c.boxes.nodes.items c.add_node-found.new.nodes.items c.pop.new.self c.add_node-found.new.open_boxes) c.in_default-2.is c.in_ok-device.ensures in
    let longer = added.1 in
    omega (arith, longer)

pub returns : goal.returns
returns c = λ goal sets is.
    let trace = goal_trace c.args.stack.now goal in
    let going = (c.boxes.invariant.grown goal sets is).0 in
    let e = ap boxes_of c.in_default.ensures.none in (
      done-passes trace sets (map node_of c.boxes.nodes.items) (boxes_of c.boxes.open_boxes) e going,
      done-needed trace sets (map node_of c.boxes.nodes.items) (boxes_of c.boxes.open_boxes) e going,
      c.boxes.invariant.within,
      done-fits trace sets (map node_of c.boxes.nodes.items) (boxes_of c.boxes.open_boxes) e going,
    )
