use Rattle.std.proofs.Common.{ℕ, List, length, map, reverse, Some, sym, ap, subst, arith}
use Rattle.std.proofs.lemmas.List.{length-map}
use Rattle.box_trace.specs.declared.open_box.OpenBox.{OpenBox}
use Rattle.box_trace.specs.OpenBox.{boxes_of}
use Rattle.cert_tree.specs.box_answers.NumberSet.{SetOf}
use Rattle.cert_tree.specs.Certificate.{NodeOf, node_of}
use Rattle.cert_checker.specs.declared.failure.Failure.{Failure}
use Rattle.cert_checker.specs.declared.rule.Rule.TheVariants.{EndsEarly}
use Rattle.cert_checker.specs.declared.verdict.Shown.TheVariants.{Nothing}
use Rattle.cert_checker.specs.Paths.{root, open_at}
use Rattle.cert_checker.specs.OpenBoxes.{Stand, IsOutcome}
use Rattle.cert_checker.proofs.BoxSteps.{whole}
use Rattle.cert_checker.proofs.TreeSteps.{seen_at, started, passed_more, failed, whole_tree, ends_early}
use Rattle.cert_checker.proofs.tree.check_nodes.Goals as goal

pub loop-place-init : goal.loop-place-init
loop-place-init c = λ trace sets is. (
  started trace sets (map node_of c.args.nodes.now) (boxes_of c.args.open_boxes.now)
      (subst (λ (parts : List (List SetOf)). Stand sets parts root) (sym (ap reverse is.alone)) (whole sets is.is_box, tt)),
  is.reached,
)

pub loop-place-preserved : goal.loop-place-preserved
loop-place-preserved c = λ trace sets is.
    let nodes : List NodeOf = map node_of c.args.nodes.now in
    let l = c.loop-place in
    let before = l.invariant trace sets is in (
      passed_more trace sets nodes l.place (node_of c.index-nodes-place.result) (boxes_of l.open_boxes) (boxes_of c.take_node.new.open_boxes) c.in_ok-failure.field-0
          (seen_at node_of c.args.nodes.now l.place c.index-nodes-place.result c.loop-place-test.true c.index-nodes-place.is)
          c.in_default.is before.0 (c.in_ok-failure.ensures.outcome trace before.1 sets (open_at nodes l.place) before.0.stand),
      c.in_ok-failure.ensures.reached trace before.1,
    )

pub returns-in-Some : goal.returns-in-Some
returns-in-Some c = λ trace sets is.
    let nodes : List NodeOf = map node_of c.args.nodes.now in
    let l = c.loop-place in
    let before = l.invariant trace sets is in
    failed trace sets nodes l.place (node_of c.index-nodes-place.result) (boxes_of l.open_boxes) (boxes_of c.take_node.new.open_boxes) c.in_ok-failure.field-0 c.in-Some.failure
    (seen_at node_of c.args.nodes.now l.place c.index-nodes-place.result c.loop-place-test.true c.index-nodes-place.is)
    c.in-Some.is before.0 (c.in_ok-failure.ensures.outcome trace before.1 sets (open_at nodes l.place) before.0.stand)

pub returns-then-len-eq0 : goal.returns-then-len-eq0
returns-then-len-eq0 c = λ trace sets is.
    let l = c.loop-place in
    whole_tree trace sets (map node_of c.args.nodes.now) l.place (boxes_of l.open_boxes)
    (omega (arith, length-map c.args.nodes.now node_of)) (omega (arith, length-map l.open_boxes (λ (part : OpenBox). part.members))) (l.invariant trace sets is).0

pub returns-else-len-eq0 : goal.returns-else-len-eq0
returns-else-len-eq0 c = λ trace sets is.
    let nodes : List NodeOf = map node_of c.args.nodes.now in
    let l = c.loop-place in
    subst (λ (f : Failure). IsOutcome trace sets nodes (Some (length c.args.nodes.now, f))) (sym c.of.ensures)
    (subst (λ (n : ℕ). IsOutcome trace sets nodes (Some (n, record { rule = EndsEarly; shown = Nothing }))) (length-map c.args.nodes.now node_of)
    (ends_early trace sets nodes l.place (boxes_of l.open_boxes) (omega (arith, length-map c.args.nodes.now node_of))
    (omega (arith, length-map l.open_boxes (λ (part : OpenBox). part.members))) (l.invariant trace sets is).0))
