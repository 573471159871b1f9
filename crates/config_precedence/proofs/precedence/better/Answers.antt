use Rattle.config_precedence.proofs.DensityTie.{both_or_neither}
use Rattle.config_precedence.proofs.Laws.{at_most_one, transitive}
use Rattle.config_precedence.proofs.precedence.better.Goals as goal

pub returns-clause-at_most_one : goal.returns-clause-at_most_one
returns-clause-at_most_one c = at_most_one _ _ _

pub returns-clause-both_or_neither : goal.returns-clause-both_or_neither
returns-clause-both_or_neither c = both_or_neither _ _ _

pub returns-clause-transitive : goal.returns-clause-transitive
returns-clause-transitive c = transitive _ _ _
