use Rattle.std.proofs.Common.{sym, ◌∙◌}
use Rattle.std.proofs.lemmas.List.{drop_more, drop_all}
use Rattle.box_answers.proofs.SearchSteps.{Reaches-end, Reaches-nowhere, Reaches-found, Reaches-alone, Reaches-stops, Reaches-next, Reaches-passing}
use Rattle.box_answers.proofs.OnePass.{place-there}
use Rattle.box_answers.proofs.search.member_of_answer.Goals as goal

pub find_deciding-requires : goal.find_deciding-requires
find_deciding-requires c = record {
  sets = c.requires.sets;
  member = c.loop-rule.invariant.member;
  in_order = Reaches-alone _ _ _ _ _ _ _ c.args.want _ c.loop-rule.invariant (drop_more c.args.question.now.rules.now c.loop-rule.rule-index _ c.loop-rule-test.true);
  in_place = place-there c.args.question.now.rules.now c.loop-rule.rule-index _ c.requires.in_place c.loop-rule-test.true;
}

pub returns-in-Some-clause-found : goal.returns-in-Some-clause-found
returns-in-Some-clause-found c =
    Reaches-found _ _ _ _ _ _ _ c.args.want _ _ c.loop-rule.invariant (drop_more c.args.question.now.rules.now c.loop-rule.rule-index _ c.loop-rule-test.true)
    c.in-Some.ensures.found.0 c.in-Some.ensures.found.1

pub find-requires : goal.find-requires
find-requires c = record {
  sets = c.requires.sets;
  member = c.loop-rule.invariant.member;
  in_order = Reaches-alone _ _ _ _ _ _ _ c.args.want _ c.loop-rule.invariant (drop_more c.args.question.now.rules.now c.loop-rule.rule-index _ c.loop-rule-test.true);
  in_place = place-there c.args.question.now.rules.now c.loop-rule.rule-index _ c.requires.in_place c.loop-rule-test.true;
}

pub returns-in-None-clause-none : goal.returns-in-None-clause-none
returns-in-None-clause-none c =
    Reaches-stops _ _ _ _ _ _ _ c.args.want _ c.loop-rule.invariant (drop_more c.args.question.now.rules.now c.loop-rule.rule-index _ c.loop-rule-test.true)
    c.in-None.ensures.none c.in_default.ensures.none

pub returns-then-is_pass-clause-found : goal.returns-then-is_pass-clause-found
returns-then-is_pass-clause-found c =
    Reaches-end _ _ _ _ _ c.args.want _ c.loop-rule.invariant (drop_all c.loop-rule.rule-index c.args.question.now.rules.now c.loop-rule-test.false)
    (sym c.is_pass.ensures ∙ c.if-is_pass.true)

pub returns-else-is_pass-clause-none : goal.returns-else-is_pass-clause-none
returns-else-is_pass-clause-none c =
    Reaches-nowhere _ _ _ _ _ c.args.want _ c.loop-rule.invariant (drop_all c.loop-rule.rule-index c.args.question.now.rules.now c.loop-rule-test.false)
    (sym c.is_pass.ensures ∙ c.if-is_pass.false)

pub loop-rule-preserved : goal.loop-rule-preserved
loop-rule-preserved c =
    Reaches-next _ _ _ _ _ _ _ c.args.want _ _ c.loop-rule.invariant (drop_more c.args.question.now.rules.now c.loop-rule.rule-index _ c.loop-rule-test.true)
    c.in-Some-find.ensures.found c.in_default.ensures.none

pub loop-rule-preserved-then-passes_everywhere : goal.loop-rule-preserved-then-passes_everywhere
loop-rule-preserved-then-passes_everywhere c =
    Reaches-passing _ _ _ _ _ _ _ c.args.want _ c.loop-rule.invariant (drop_more c.args.question.now.rules.now c.loop-rule.rule-index _ c.loop-rule-test.true)
    (c.passes_everywhere.ensures c.if-passes_everywhere.true)
