use Rattle.std.proofs.Common.{sym, ◌∙◌, arith}
use Rattle.box_answers.specs.NumberSet.{IsIn}
use Rattle.box_answers.specs.Members.{sets_of, set_at}
use Rattle.box_answers.proofs.Sets.{member-changed}
use Rattle.box_answers.proofs.Sides.{parts-first, parts-no, parts-distinct, by_one, middle-in}
use Rattle.box_answers.proofs.neighbours.halved.Goals as goal

pub changed-device-requires : goal.changed-device-requires
changed-device-requires c =
    (c.requires.sets.each c.args.pair.coord).can c.in-Some.middle
    (middle-in (set_at (sets_of c.args.sets.now) c.args.pair.coord) _ _ _ _ c.in-Some.middle c.requires.range (c.loop-middle.invariant.yes.member c.args.pair.coord) (c.loop-middle.invariant.no.member c.args.pair.coord)
    c.compared_number.ensures.value c.compared_number-in-loop-middle.ensures.value c.in-Some.ensures.found)

pub loop-middle-preserved-then-answered : goal.loop-middle-preserved-then-answered
loop-middle-preserved-then-answered c =
    let is : IsIn (set_at (sets_of c.args.sets.now) c.args.pair.coord) c.in-Some.middle =
    middle-in (set_at (sets_of c.args.sets.now) c.args.pair.coord) _ _ _ _ c.in-Some.middle c.requires.range (c.loop-middle.invariant.yes.member c.args.pair.coord) (c.loop-middle.invariant.no.member c.args.pair.coord)
    c.compared_number.ensures.value c.compared_number-in-loop-middle.ensures.value c.in-Some.ensures.found in
    parts-first _ _ _ _ _ c.args.pair.coord c.loop-middle.invariant
    (member-changed _ _ _ c.args.pair.coord c.in-Some.middle c.loop-middle.invariant.yes.member is c.changed-device.ensures.same c.changed-device.ensures.others)
    (sym c.answered.ensures ∙ c.if-answered.true) c.changed-device.ensures.others

pub loop-middle-preserved : goal.loop-middle-preserved
loop-middle-preserved c =
    let is : IsIn (set_at (sets_of c.args.sets.now) c.args.pair.coord) c.in-Some.middle =
    middle-in (set_at (sets_of c.args.sets.now) c.args.pair.coord) _ _ _ _ c.in-Some.middle c.requires.range (c.loop-middle.invariant.yes.member c.args.pair.coord) (c.loop-middle.invariant.no.member c.args.pair.coord)
    c.compared_number.ensures.value c.compared_number-in-loop-middle.ensures.value c.in-Some.ensures.found in
    parts-no _ _ _ _ _ c.args.pair.coord c.loop-middle.invariant
    (member-changed _ _ _ c.args.pair.coord c.in-Some.middle c.loop-middle.invariant.yes.member is c.changed-device.ensures.same c.changed-device.ensures.others)
    (sym c.answered.ensures ∙ c.if-answered.false) c.changed-device.ensures.others

pub returns-clause-near : goal.returns-clause-near
returns-clause-near c =
    by_one _ _ (omega (arith, c.in_default.ensures.none, c.compared_number.ensures.value, c.compared_number-in-loop-middle.ensures.value))
    (omega (arith, c.in_default.ensures.none, c.compared_number.ensures.value, c.compared_number-in-loop-middle.ensures.value))
    (parts-distinct _ c.args.question.now _ _ c.args.pair.coord c.loop-middle.invariant)
