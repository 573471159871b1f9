use Rattle.std.proofs.Common.{rules, ◌≡◌, true, false, refl, sym, ap, ◌∙◌, arith, List, length}
use Rattle.config_precedence.specs.config_record.declared.coord.Coord.{Coord}
use Rattle.box_answers.proofs.Coords.{all_coords-count}
use Rattle.box_answers.proofs.Sides.{Approaches-next, Approaches-end, turns}
use Rattle.box_answers.proofs.neighbours.neighbours_among.Goals as goal

pub loop-coord-init : goal.loop-coord-init
loop-coord-init c = record { member = c.requires.yes.member; yes_answer = c.requires.yes.answers; alike = λ k q. absurd (omega (arith, q)) }

pub nearest-requires-clause-parts : goal.nearest-requires-clause-parts
nearest-requires-clause-parts c =
    let answer : c.answered.result ≡ false = search rules in
    turns _ _ _ _ _ c.loop-coord.coord-index _ c.loop-coord.invariant c.requires.no.member
    (c.changed-next.ensures.same ∙ c.compared_number.ensures.value) c.changed-next.ensures.others (sym c.answered.ensures ∙ answer)

pub loop-coord-preserved : goal.loop-coord-preserved
loop-coord-preserved c =
    let answer : c.answered.result ≡ true = search rules in
    Approaches-next _ _ _ _ _ c.loop-coord.coord-index _ c.args.coords.now _ c.loop-coord.invariant c.requires.coords refl c.loop-coord-test.true c.requires.no.member
    (c.changed-next.ensures.same ∙ c.compared_number.ensures.value) c.changed-next.ensures.others (sym c.answered.ensures ∙ answer)

pub unreachable-requires : goal.unreachable-requires
unreachable-requires c =
    Approaches-end _ c.args.question.now _ _ c.loop-coord.coord-index c.loop-coord.invariant
    (omega (arith, c.loop-coord-test.false, ap (λ (cs : List Coord). length cs) c.requires.coords, all_coords-count)) c.requires.no.answers
