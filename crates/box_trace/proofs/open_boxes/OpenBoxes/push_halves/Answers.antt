use Rattle.std.proofs.Common.{List, [], ◌∷◌, ◌++◌, ◌∙◌, ap, subst}
use Rattle.config_box.specs.box_answers.NumberSet.{SetOf}
use Rattle.config_box.specs.Halves.{IsSplit}
use Rattle.config_box.specs.Tests.{test_of}
use Rattle.box_trace.proofs.open_boxes.OpenBoxes.push_halves.Goals as goal

pub push_part-requires : goal.push_part-requires
push_part-requires c = λ d m.
    let split = subst (IsSplit c.args.whole.now.members (test_of c.args.test.now)) c.in-Halves.is c.in_ok-yes.ensures.halves in
    ((split.2.members d).0 m).member

pub push_part-requires-in-Halves : goal.push_part-requires-in-Halves
push_part-requires-in-Halves c = λ d m.
    let split = subst (IsSplit c.args.whole.now.members (test_of c.args.test.now)) c.in-Halves.is c.in_ok-yes.ensures.halves in
    ((split.1.members d).0 m).member

pub returns-in_ok-push_part-in-Halves-2-clause-halved : goal.returns-in_ok-push_part-in-Halves-2-clause-halved
returns-in_ok-push_part-in-Halves-2-clause-halved c =
    let split = subst (IsSplit c.args.whole.now.members (test_of c.args.test.now)) c.in-Halves.is c.in_ok-yes.ensures.halves in
    record {
      yes_half = c.in-Halves.yes;
      no_half = c.in-Halves.no;
      opened = c.in_ok-push_part-in-Halves-2.ensures.boxes ∙ ap (λ (boxes : List (List SetOf)). boxes ++ c.in-Halves.yes ∷ []) c.in_ok-push_part-in-Halves.ensures.boxes;
      right_kind = split.0;
      yes = split.1;
      no = split.2;
    }

pub returns-in_ok-push_part-in-Halves-2-clause-reached : goal.returns-in_ok-push_part-in-Halves-2-clause-reached
returns-in_ok-push_part-in-Halves-2-clause-reached c = λ stack trace reached all.
    c.in_ok-push_part-in-Halves-2.ensures.reached stack trace reached (c.in_ok-push_part-in-Halves.ensures.reached stack trace reached all)

pub returns-in-WrongKind-clause-halved : goal.returns-in-WrongKind-clause-halved
returns-in-WrongKind-clause-halved c = subst (IsSplit c.args.whole.now.members (test_of c.args.test.now)) c.in-WrongKind.is c.in_ok-yes.ensures.halves

pub returns-in-EmptyHalf-clause-halved : goal.returns-in-EmptyHalf-clause-halved
returns-in-EmptyHalf-clause-halved c = subst (IsSplit c.args.whole.now.members (test_of c.args.test.now)) c.in-EmptyHalf.is c.in_ok-yes.ensures.halves

pub returns-in-WrongKind-clause-reached : goal.returns-in-WrongKind-clause-reached
returns-in-WrongKind-clause-reached c = λ stack trace reached all. all

pub returns-in-EmptyHalf-clause-reached : goal.returns-in-EmptyHalf-clause-reached
returns-in-EmptyHalf-clause-reached c = λ stack trace reached all. all
