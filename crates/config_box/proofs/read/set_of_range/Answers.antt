use Rattle.std.proofs.Common.{sym, ◌∙◌, arith}
use Rattle.config_box.proofs.ReadSteps.{range-fits}
use Rattle.config_box.proofs.read.set_of_range.Goals as goal

pub overflow_cast-result : goal.overflow_cast-result
overflow_cast-result c = let small = c.is_outside.ensures.fits c.if-is_outside.false in omega arith

pub overflow_cast-result-2 : goal.overflow_cast-result-2
overflow_cast-result-2 c = let small = c.is_outside-2.ensures.fits c.if-is_outside-2.false in omega arith

pub returns-clause-fits : goal.returns-clause-fits
returns-clause-fits c =
    range-fits c.args.at c.args.from c.args.to c.requires (omega (arith, c.if-from-to.false)) (sym c.is_outside.ensures.value ∙ c.if-is_outside.false) (sym c.is_outside-2.ensures.value ∙ c.if-is_outside-2.false)
