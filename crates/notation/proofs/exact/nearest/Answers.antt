use Rattle.notation.proofs.DecimalSteps.{rounded}
use Rattle.notation.proofs.exact.nearest.Goals as goal

pub returns-clause-fits : goal.returns-clause-fits
returns-clause-fits c =
    rounded _ _ _ _ _ _ _ c.from.ensures c.ten_to.ensures.value c.two_to.ensures.value c.two_to-2.ensures.value c.two_to.ensures.least
