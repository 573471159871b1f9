use Rattle.std.proofs.Common.{◌≡◌, ℕ, List, Option, Some, None, Result, sym, ap, subst}
use Rattle.std.proofs.lemmas.List.Elements.{All-pop}
use Rattle.std.proofs.lemmas.Result.{IfOk-weaker}
use Rattle.std.specs.Prelude.{IfOk}
use Rattle.std.specs.List.{All}
use Rattle.box_trace.specs.reference_resolver.Trace.{Trace}
use Rattle.box_trace.specs.declared.open_box.OpenBox.{OpenBox}
use Rattle.box_trace.specs.OpenBox.{boxes_of, IsReached}
use Rattle.box_trace.proofs.OpenBoxSteps.{boxes-push}
use Rattle.std.specs.declared.alloc.AllocError.{AllocError}
use Rattle.cert_tree.specs.config_box.Tests.{test_of}
use Rattle.cert_tree.specs.declared.node.Node.{Node}
use Rattle.cert_tree.specs.Certificate.{node_of}
use Rattle.cert_checker.specs.declared.failure.Failure.{Failure}
use Rattle.cert_checker.specs.OpenBoxes.{TakesNode}
use Rattle.cert_checker.proofs.NodeSteps.{left_over, at_test, at_value, at_bag}
use Rattle.cert_checker.proofs.node.take_node.Goals as goal
use Rattle.cert_checker.proofs.node.take_node.Goals.{in-Test, in-Value, in-Bag}

-- what holds of an outcome and the boxes after it holds where both go by other names
kept : (A B : Type 0) (P : A → B → Type 0) (a c : A) (b d : B) → a ≡ c → b ≡ d → P c d → P a b
kept A B P a c b d e f h = subst (λ (x : A). P x b) (sym e) (subst (λ (y : B). P c y) (sym f) h)

pub returns-clause-outcome : goal.returns-clause-outcome
returns-clause-outcome c =
    let stack = c.args.stack.now in
    let before = c.args.open_boxes.now in
    let outcome_is : Result (Option Failure) AllocError → List OpenBox → Type 0 =
    λ r boxes. IfOk r (λ outcome. (trace : List ℕ → Trace) → All (IsReached stack trace) before → TakesNode trace (node_of c.args.node.now) (boxes_of before) (boxes_of boxes) outcome) in
    let popped = boxes-push _ _ _ c.in-Some.ensures.items in
    let reached : (trace : List ℕ → Trace) → All (IsReached stack trace) before → IsReached stack trace c.in-Some.part =
    λ trace all. (All-pop (IsReached stack trace) before c.pop.new.self (Some c.in-Some.part) c.in-Some.ensures.items all).1 in
    elim c.match-node.branch [
      | in-Test w ↦
          kept _ _ outcome_is _ _ _ _ w.outcome-is w.open_boxes-is
          (IfOk-weaker w.take_test-outcome.result _ _ (λ outcome h trace all.
          subst (λ (n : Node). TakesNode trace (node_of n) (boxes_of before) (boxes_of w.take_test-outcome.new.open_boxes) outcome) (sym w.in-Test.is)
          (at_test trace (test_of w.in-Test.test) c.in-Some.part.members (boxes_of before) (boxes_of c.pop.new.self) (boxes_of w.take_test-outcome.new.open_boxes) outcome popped h)) w.take_test-outcome.ensures.outcome)
      | in-Value w ↦
          kept _ _ outcome_is _ _ _ _ w.outcome-is w.open_boxes-is
          (IfOk-weaker w.take_leaf-outcome.result _ _ (λ outcome h trace all.
          subst (λ (n : Node). TakesNode trace (node_of n) (boxes_of before) (boxes_of c.pop.new.self) outcome) (sym w.in-Value.is)
          (at_value trace w.in-Value.layer w.in-Value.value c.in-Some.part.members (boxes_of before) (boxes_of c.pop.new.self) outcome popped (h trace (reached trace all)))) w.take_leaf-outcome.ensures)
      | in-Bag w ↦
          kept _ _ outcome_is _ _ _ _ w.outcome-is w.open_boxes-is
          (IfOk-weaker w.take_leaf-outcome-in-Bag.result _ _ (λ outcome h trace all.
          subst (λ (n : Node). TakesNode trace (node_of n) (boxes_of before) (boxes_of c.pop.new.self) outcome) (sym w.in-Bag.is)
          (at_bag trace w.in-Bag.id c.in-Some.part.members (boxes_of before) (boxes_of c.pop.new.self) outcome popped (h trace (reached trace all)))) w.take_leaf-outcome-in-Bag.ensures)
    ]

pub returns-clause-reached : goal.returns-clause-reached
returns-clause-reached c =
    let stack = c.args.stack.now in
    let before = c.args.open_boxes.now in
    let all_reached : Result (Option Failure) AllocError → List OpenBox → Type 0 =
    λ r boxes. IfOk r (λ _. (trace : List ℕ → Trace) → All (IsReached stack trace) before → All (IsReached stack trace) boxes) in
    let taken : (trace : List ℕ → Trace) → All (IsReached stack trace) before → All (IsReached stack trace) c.pop.new.self × IsReached stack trace c.in-Some.part =
    λ trace all. All-pop (IsReached stack trace) before c.pop.new.self (Some c.in-Some.part) c.in-Some.ensures.items all in
    elim c.match-node.branch [
      | in-Test w ↦
          kept _ _ all_reached _ _ _ _ w.outcome-is w.open_boxes-is
          (IfOk-weaker w.take_test-outcome.result _ _ (λ outcome h trace all. h trace (taken trace all).1 (taken trace all).0) w.take_test-outcome.ensures.reached)
      | in-Value w ↦
          kept _ _ all_reached _ _ _ _ w.outcome-is w.open_boxes-is
          (IfOk-weaker w.take_leaf-outcome.result _ _ (λ outcome h trace all. (taken trace all).0) w.take_leaf-outcome.ensures)
      | in-Bag w ↦
          kept _ _ all_reached _ _ _ _ w.outcome-is w.open_boxes-is
          (IfOk-weaker w.take_leaf-outcome-in-Bag.result _ _ (λ outcome h trace all. (taken trace all).0) w.take_leaf-outcome-in-Bag.ensures)
    ]

pub returns-in_default-clause-reached : goal.returns-in_default-clause-reached
returns-in_default-clause-reached c = λ trace reached. (All-pop (IsReached c.args.stack.now trace) c.args.open_boxes.now c.pop.new.self None c.in_default.ensures.items reached).0

pub returns-in_default-clause-outcome : goal.returns-in_default-clause-outcome
returns-in_default-clause-outcome c = λ trace reached.
    subst (λ (f : Failure). TakesNode trace (node_of c.args.node.now) (boxes_of c.args.open_boxes.now) (boxes_of c.pop.new.self) (Some f)) (sym c.of.ensures)
    (left_over trace (node_of c.args.node.now) (boxes_of c.args.open_boxes.now) (boxes_of c.pop.new.self) (ap boxes_of c.in_default.ensures.none))
