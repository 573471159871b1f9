use Rattle.config_box.proofs.ReadSteps.{read-elsewhere}
use Rattle.config_box.proofs.read.set_in.Goals as goal

pub returns-in_default-Range-clause-fits : goal.returns-in_default-Range-clause-fits
returns-in_default-Range-clause-fits c = read-elsewhere c.args.rule c.args.at c.set_of_range.result c.in_default-Range.not-Locale-0 c.set_of_range.ensures.fits

pub returns-in_default-Numbers-clause-fits : goal.returns-in_default-Numbers-clause-fits
returns-in_default-Numbers-clause-fits c = read-elsewhere c.args.rule c.args.at c.set_of_numbers.result c.in_default-Numbers.not-Locale-0 c.set_of_numbers.ensures.fits
