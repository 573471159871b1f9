use Rattle.notation.proofs.GivenSteps.{no_locale_in}
use Rattle.notation.proofs.qualifier.Qualifier.read.Goals as goal

pub returns-in-Some-clause-given : goal.returns-in-Some-clause-given
returns-in-Some-clause-given c = no_locale_in c.args.rule c.args.part.now c.in-Some.qualifier c.in-Some.ensures
