use Rattle.std.proofs.Common.{ℕ, List, map, arith, ◌∙◌, ap, subst}
use Rattle.cert_checker.specs.config_record.DeviceSeen.{device_numbers}
use Rattle.cert_checker.specs.overlay_map.Layer.{most_layers}
use Rattle.cert_checker.specs.reference_resolver.Trace.{Trace}
use Rattle.cert_checker.specs.box_answers.NumberSet.{SetOf}
use Rattle.cert_checker.specs.box_answers.Members.{IsCorner}
use Rattle.cert_checker.specs.box_trace.declared.common.CommonTrace.{CommonTrace}
use Rattle.cert_checker.specs.box_trace.CommonTrace.{IsCommonTrace}
use Rattle.cert_checker.specs.box_trace.Halving.{IsHalving}
use Rattle.cert_checker.specs.box_trace.OpenBox.{boxes_of}
use Rattle.cert_checker.specs.cert_tree.Certificate.{NodeOf, node_of}
use Rattle.cert_checker.specs.cert_tree.declared.node.Node.TheVariants as code
use Rattle.cert_checker.specs.declared.rule.Rule.TheVariants.{TestKind, EmptyHalf}
use Rattle.cert_checker.specs.FirstFault.{goal_trace}
use Rattle.cert_checker.proofs.box_trace.OpenBoxSteps.{rest_of, reached_there, told_in_place}
use Rattle.cert_maker.specs.Growth.{Grows, GrowsOn}
use Rattle.cert_maker.proofs.GoalLayers.{goal-below}
use Rattle.cert_maker.proofs.Cut.{needed-by-trace}
use Rattle.cert_maker.proofs.Steps.{grows-leaf, grows-halved, map-push, one-longer}
use Rattle.cert_maker.proofs.growth.add_node.Goals as goal

grows-to-leaf : (c : goal.In_ok-push-in-Some) → GrowsOn c.args.stack.now c.args.part.now (map node_of c.args.nodes.now.items) (map node_of c.push.new.self.items) c.args.open_boxes.now c.args.open_boxes.now
grows-to-leaf c = λ goal reached all.
    let trace : List ℕ → Trace = goal_trace c.args.stack.now goal in
    let part = c.args.part.now.members in
    let common = subst (λ (k : CommonTrace). IsCommonTrace k part trace) c.in-One.is (c.in_ok-end.ensures.common trace reached) in
    let t : Trace = record { steps = common.0; end = c.in-One.end } in (
      grows-leaf trace part t (node_of c.in-Some.leaf)
          (map node_of c.args.nodes.now.items) (map node_of c.push.new.self.items) (boxes_of c.args.open_boxes.now)
          (map-push node_of c.args.nodes.now.items c.push.new.self.items c.in-Some.leaf c.in_ok-push-in-Some.ensures.items)
          common.1
          c.in-Some.ensures
          (λ d. goal-below most_layers c.args.stack.now goal d (omega arith)),
      all,
    )

pub returns-in_ok-push-in-Some : goal.returns-in_ok-push-in-Some
returns-in_ok-push-in-Some c = (grows-to-leaf c, one-longer _ _ _ c.in_ok-push-in-Some.ensures.items)

pub returns-in-None : goal.returns-in-None
returns-in-None c = λ trace reached.
    let part = c.args.part.now.members in
    let common = subst (λ (k : CommonTrace). IsCommonTrace k part trace) c.in-One.is (c.in_ok-end.ensures.common trace reached) in
    let corner = subst (λ (sets : List SetOf). IsCorner sets (device_numbers c.corner.result)) c.in_ok-end.ensures.members c.corner.ensures in
    record {
      member = λ k. (corner k).is_in;
      ends = ap (λ (t : Trace). t.end) (common.1 (device_numbers c.corner.result) (λ k. (corner k).is_in));
      no_value = c.in-None.ensures;
    }

pub parting_test-requires : goal.parting_test-requires
parting_test-requires c =
    let stack = c.args.stack.now in
    let rest : List ℕ → Trace = rest_of stack c.args.part.now.walk in
    let reached = reached_there stack c.args.part.now in
    (told_in_place rest _ c.in-Mixed.first _ c.args.part.now.members _ _ c.in-Mixed.is c.in_ok-end.ensures.members c.in_ok-parting-in-Mixed.ensures.members (c.in_ok-end.ensures.common rest reached)
    (c.in_ok-parting-in-Mixed.ensures.told stack rest (c.in_ok-end.ensures.reached rest reached))).separates

pub unreachable-requires : goal.unreachable-requires
unreachable-requires c = c.in_ok-test-in-Mixed.ensures.needed.passes TestKind (subst (IsHalving _ _ _ _) c.in-WrongKind.is c.in_ok-halving-in-Mixed.ensures.halved)

pub unreachable-requires-in-EmptyHalf : goal.unreachable-requires-in-EmptyHalf
unreachable-requires-in-EmptyHalf c =
    let empty = subst (IsHalving _ _ _ _) c.in-EmptyHalf.is c.in_ok-halving-in-Mixed.ensures.halved in
    c.in_ok-test-in-Mixed.ensures.needed.passes EmptyHalf empty.1

grows-to-test : (c : goal.In_ok-push-in-Opened) → GrowsOn c.args.stack.now c.args.part.now (map node_of c.args.nodes.now.items) (map node_of c.push-in-Opened.new.self.items) c.args.open_boxes.now c.push_halves.new.self
grows-to-test c = λ goal reached all.
    let stack = c.args.stack.now in
    let trace : List ℕ → Trace = goal_trace stack goal in
    let further = c.in_ok-end.ensures.reached trace reached in
    let told =
    told_in_place trace _ c.in-Mixed.first _ c.args.part.now.members _ _ c.in-Mixed.is c.in_ok-end.ensures.members c.in_ok-parting-in-Mixed.ensures.members (c.in_ok-end.ensures.common trace reached)
    (c.in_ok-parting-in-Mixed.ensures.told stack trace further) in
    let needed = needed-by-trace trace _ _ _ told.trace_tells c.in_ok-test-in-Mixed.ensures.needed in
    let opens = subst (IsHalving _ _ _ _) c.in-Opened.is c.in_ok-halving-in-Mixed.ensures.halved in
    let old : List NodeOf = map node_of c.args.nodes.now.items in
    let new : List NodeOf = map node_of c.push-in-Opened.new.self.items in
    let grows = grows-halved trace _ _ old new (boxes_of c.args.open_boxes.now) (boxes_of c.push_halves.new.self)
    (map-push node_of c.args.nodes.now.items c.push-in-Opened.new.self.items (code.Test c.in_ok-test-in-Mixed.test) c.in_ok-push-in-Opened.ensures.items) opens needed c.in_ok-test-in-Mixed.ensures.fits in (
      subst (λ (sets : List SetOf). Grows trace sets old new (boxes_of c.args.open_boxes.now) (boxes_of c.push_halves.new.self)) (c.in_ok-parting-in-Mixed.ensures.members ∙ c.in_ok-end.ensures.members) grows,
      c.in_ok-halving-in-Mixed.ensures.reached stack trace (c.in_ok-parting-in-Mixed.ensures.reached stack trace further) all,
    )

pub returns-in_ok-push-in-Opened : goal.returns-in_ok-push-in-Opened
returns-in_ok-push-in-Opened c = (grows-to-test c, one-longer _ _ _ c.in_ok-push-in-Opened.ensures.items)
