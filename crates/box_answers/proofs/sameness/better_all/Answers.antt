use Rattle.std.proofs.Common.{refl, sym, subst}
use Rattle.config_precedence.specs.Rules.{all_rules}
use Rattle.box_answers.specs.TriedNumbers.{StandInPlace}
use Rattle.box_answers.proofs.FactSteps.{turns_once, sizes_alike, dimensions_alike}
use Rattle.box_answers.proofs.sameness.better_all.Goals as goal

pub returns-clause-density : goal.returns-clause-density
returns-clause-density c = turns_once _ _

pub returns-clause-sizes : goal.returns-clause-sizes
returns-clause-sizes c = sizes_alike _ _

pub returns-clause-dimensions : goal.returns-clause-dimensions
returns-clause-dimensions c = dimensions_alike _ _

pub answer_of_all-requires-clause-in_place : goal.answer_of_all-requires-clause-in_place
unfolding all_rules
answer_of_all-requires-clause-in_place c = subst StandInPlace (sym c.rules.ensures.value) refl
