use Rattle.std.proofs.Common.{List, ◌∷◌, ◌++◌, [], ◌∙◌, ap, subst}
use Rattle.std.proofs.lemmas.Result.{IfOk-weaker}
use Rattle.cert_maker.specs.box_answers.NumberSet.{SetOf}
use Rattle.cert_maker.specs.config_box.declared.split.Split.{Split}
use Rattle.cert_maker.specs.config_box.Tests.{test_of}
use Rattle.cert_maker.specs.config_box.Halves.{IsSplit}
use Rattle.cert_maker.specs.cert_checker.declared.rule.Rule.TheVariants.{TestKind, EmptyHalf}
use Rattle.stack_diff.specs.PairBox.{members_of}
use Rattle.stack_diff.proofs.pair_box.PairBoxes.push_halves.Goals as goal

pub push_part-requires-clause-within : goal.push_part-requires-clause-within
push_part-requires-clause-within c = λ d m.
    let split = subst (λ (s : Split). IsSplit (members_of c.args.whole.now) (test_of c.args.test.now) s) c.in-Halves.is c.in_ok-yes.ensures.halves in
    ((split.2.members d).0 m).member

pub push_part-requires-in-Halves-clause-within : goal.push_part-requires-in-Halves-clause-within
push_part-requires-in-Halves-clause-within c = λ d m.
    let split = subst (λ (s : Split). IsSplit (members_of c.args.whole.now) (test_of c.args.test.now) s) c.in-Halves.is c.in_ok-yes.ensures.halves in
    ((split.1.members d).0 m).member

pub unreachable-requires : goal.unreachable-requires
unreachable-requires c =
    let wrong = subst (λ (s : Split). IsSplit (members_of c.args.whole.now) (test_of c.args.test.now) s) c.in-WrongKind.is c.in_ok-yes.ensures.halves in
    c.requires.asked TestKind wrong

pub unreachable-requires-in-EmptyHalf : goal.unreachable-requires-in-EmptyHalf
unreachable-requires-in-EmptyHalf c =
    let split = subst (λ (s : Split). IsSplit (members_of c.args.whole.now) (test_of c.args.test.now) s) c.in-EmptyHalf.is c.in_ok-yes.ensures.halves in
    c.requires.asked EmptyHalf split.1

pub returns : goal.returns
returns c =
    let split = subst (λ (s : Split). IsSplit (members_of c.args.whole.now) (test_of c.args.test.now) s) c.in-Halves.is c.in_ok-yes.ensures.halves in
    let no_half = c.in_ok-push_part-in-Halves.ensures in
    IfOk-weaker c.push_part-in-Halves.result _ _ (λ _ yes_half. record {
      halves = record {
        yes_half = c.in-Halves.yes;
        no_half = c.in-Halves.no;
        opened = yes_half.pushed ∙ ap (λ (boxes : List (List SetOf)). boxes ++ c.in-Halves.yes ∷ []) no_half.pushed;
        right_kind = split.0;
        yes = split.1;
        no = split.2;
      };
      goes_on = λ pair is_open are. yes_half.goes_on pair is_open (no_half.goes_on pair is_open are);
    })
    c.push_part-in-Halves.ensures
