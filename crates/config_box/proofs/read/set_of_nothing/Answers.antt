use Rattle.std.proofs.Common.{arith, ◌∷◌, []}
use Rattle.box_answers.specs.NumberSet.{NumbersOf}
use Rattle.config_box.specs.Choices.{rising}
use Rattle.config_box.proofs.ReadSteps.{numbers-fit, locales-fit, nothing-inside, elsewhere}
use Rattle.config_box.proofs.read.set_of_nothing.Goals as goal

pub returns-in_ok-locales_set-in-Locale-clause-fits : goal.returns-in_ok-locales_set-in-Locale-clause-fits
returns-in_ok-locales_set-in-Locale-clause-fits c =
    rw (c.in-Locale.is, c.in_ok-locales_set-in-Locale.ensures) (locales-fit c.args.rule (c.number_of_none.result ∷ []) (omega arith) (omega arith) (c.number_of_none.ensures.of_rule, tt))

pub returns-in_ok-numbers_set-in_default-clause-fits : goal.returns-in_ok-numbers_set-in_default-clause-fits
returns-in_ok-numbers_set-in_default-clause-fits c =
    rw c.in_ok-numbers_set-in_default.ensures
    (elsewhere c.args.rule c.args.at (NumbersOf (rising (0 ∷ []))) c.in_default.not-Locale (numbers-fit c.args.at (0 ∷ []) c.in_default.not-Locale (omega arith) (omega arith) (nothing-inside c.args.at c.in_default.not-Density)))
