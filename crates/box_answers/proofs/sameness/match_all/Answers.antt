use Rattle.std.proofs.Common.{refl, sym, subst}
use Rattle.config_precedence.specs.config_match.Conditions.{all_conditions}
use Rattle.box_answers.specs.Condition.{AreOfOne}
use Rattle.box_answers.specs.TriedNumbers.{StandInPlace}
use Rattle.box_answers.proofs.sameness.match_all.Goals as goal

pub pass_all-requires-clause-one : goal.pass_all-requires-clause-one
unfolding all_conditions
pass_all-requires-clause-one c = subst AreOfOne (sym c.conditions.ensures.value) refl

pub pass_all-requires-clause-in_place : goal.pass_all-requires-clause-in_place
unfolding all_conditions
pass_all-requires-clause-in_place c = subst StandInPlace (sym c.conditions.ensures.value) refl
