use Rattle.std.proofs.Common.{◌≡◌, List, Option, Some, None, sym, subst}
use Rattle.box_trace.specs.OpenBox.{boxes_of}
use Rattle.box_trace.specs.Halving.{IsHalving}
use Rattle.cert_tree.specs.config_box.Tests.{TestOf, test_of}
use Rattle.cert_tree.specs.box_answers.NumberSet.{SetOf}
use Rattle.cert_checker.specs.declared.rule.Rule.TheVariants.{TestKind, EmptyHalf}
use Rattle.cert_checker.specs.declared.verdict.Shown.TheVariants.{Nothing}
use Rattle.cert_checker.specs.declared.failure.Failure.{Failure}
use Rattle.cert_checker.specs.OpenBoxes.{TakesTest}
use Rattle.cert_checker.proofs.NodeSteps.{wrong_kind, empty_half, opened}
use Rattle.cert_checker.proofs.node.take_test.Goals as goal

-- what all members do alike is asked of the same box
of-same : (old new : List SetOf) (test : TestOf) (before after : List (List SetOf)) (outcome : Option Failure) → new ≡ old → TakesTest test new before after outcome → TakesTest test old before after outcome
of-same old new test before after outcome same taken = subst (λ (sets : List SetOf). TakesTest test sets before after outcome) same taken

pub returns-in-Opened-clause-outcome : goal.returns-in-Opened-clause-outcome
returns-in-Opened-clause-outcome c =
    let opens = subst (IsHalving _ _ _ _) c.in-Opened.is c.in_ok-halving.ensures.halved in
    of-same c.args.whole.now.members _ (test_of c.args.test.now) (boxes_of c.args.open_boxes.now) (boxes_of c.push_halves.new.self) None c.in_ok-common_trace.ensures.members (opened _ (test_of c.args.test.now) (boxes_of c.args.open_boxes.now) (boxes_of c.push_halves.new.self) opens)

pub returns-in-WrongKind-clause-outcome : goal.returns-in-WrongKind-clause-outcome
returns-in-WrongKind-clause-outcome c =
    let wrong = subst (IsHalving _ _ _ _) c.in-WrongKind.is c.in_ok-halving.ensures.halved in
    let before = boxes_of c.args.open_boxes.now in
    let after = boxes_of c.push_halves.new.self in
    subst (λ (f : Failure). TakesTest (test_of c.args.test.now) c.args.whole.now.members before after (Some f)) (sym c.of.ensures)
    (of-same c.args.whole.now.members _ (test_of c.args.test.now) before after (Some (record { rule = TestKind; shown = Nothing })) c.in_ok-common_trace.ensures.members
    (wrong_kind _ (test_of c.args.test.now) before after wrong))

pub returns-in-EmptyHalf-clause-outcome : goal.returns-in-EmptyHalf-clause-outcome
returns-in-EmptyHalf-clause-outcome c =
    let empty = subst (IsHalving _ _ _ _) c.in-EmptyHalf.is c.in_ok-halving.ensures.halved in
    let before = boxes_of c.args.open_boxes.now in
    let after = boxes_of c.push_halves.new.self in
    subst (λ (f : Failure). TakesTest (test_of c.args.test.now) c.args.whole.now.members before after (Some f)) (sym c.of-in-EmptyHalf.ensures)
    (of-same c.args.whole.now.members _ (test_of c.args.test.now) before after (Some (record { rule = EmptyHalf; shown = Nothing })) c.in_ok-common_trace.ensures.members
    (empty_half _ (test_of c.args.test.now) before after empty.0 empty.1))

pub returns-in-Opened-clause-reached : goal.returns-in-Opened-clause-reached
returns-in-Opened-clause-reached c = λ trace reached all. c.in_ok-halving.ensures.reached c.args.stack.now trace (c.in_ok-common_trace.ensures.reached trace reached) all

pub returns-in-WrongKind-clause-reached : goal.returns-in-WrongKind-clause-reached
returns-in-WrongKind-clause-reached c = λ trace reached all. c.in_ok-halving.ensures.reached c.args.stack.now trace (c.in_ok-common_trace.ensures.reached trace reached) all

pub returns-in-EmptyHalf-clause-reached : goal.returns-in-EmptyHalf-clause-reached
returns-in-EmptyHalf-clause-reached c = λ trace reached all. c.in_ok-halving.ensures.reached c.args.stack.now trace (c.in_ok-common_trace.ensures.reached trace reached) all
