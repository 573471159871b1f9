use Rattle.std.proofs.Common.{arith}
use Rattle.std.proofs.lemmas.List.{length-map}
use Rattle.cert_maker.specs.cert_checker.box_trace.declared.open_box.OpenBox.{OpenBox}
use Rattle.cert_maker.proofs.cert_checker.box_trace.OpenBoxSteps.{boxes-push}
use Rattle.stack_diff.specs.PairBox.{members_of, members_open}
use Rattle.stack_diff.proofs.Both.{popped-open}
use Rattle.stack_diff.proofs.Walks.{started, goes-on, done, too-large}
use Rattle.stack_diff.proofs.tree.grow_nodes.Goals as goal

pub boxes-init : goal.boxes-init
boxes-init c = record {
  are_open = c.requires;
  going = λ sets whole. started c.args.pair sets (members_open c.args.open_boxes.now) c.new-told.result.items whole.before.is_box whole.before.alone c.new-told.ensures.items;
}

pub returns-then-nodes-len : goal.returns-then-nodes-len
returns-then-nodes-len c = λ sets whole.
    let count = length-map c.boxes.open_boxes.before (λ (part : OpenBox). part.members) in
    too-large c.args.pair sets (members_open c.boxes.open_boxes) c.boxes.told.items c.boxes.nodes c.args.most (omega (arith, count)) (c.boxes.invariant.going sets whole)

pub pop-requires : goal.pop-requires
pop-requires c = c.boxes.invariant.are_open.same

pub returns-in_default : goal.returns-in_default
returns-in_default c = λ sets whole.
    let all = done c.args.pair sets (members_open c.boxes.open_boxes) c.boxes.told.items c.boxes.nodes c.in_default.ensures (c.boxes.invariant.going sets whole) in
    (all.0, all.1, omega arith)

pub add_node-added-requires : goal.add_node-added-requires
add_node-added-requires c = (popped-open c.args.pair _ _ _ c.in-Some.ensures c.boxes.invariant.are_open).0

pub boxes-preserved : goal.boxes-preserved
boxes-preserved c =
    let added = c.in_ok-added.ensures in
    record {
      are_open = added.goes_on (popped-open c.args.pair _ _ _ c.in-Some.ensures c.boxes.invariant.are_open).1;
      going = λ sets whole.
          goes-on c.args.pair sets _ (members_open c.pop.new.self) _ (members_of c.in-Some.part) _ _ c.boxes.nodes (boxes-push _ _ _ c.in-Some.ensures.before) (c.boxes.invariant.going sets whole) added.node;
    }
