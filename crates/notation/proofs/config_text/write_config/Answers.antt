use Rattle.notation.proofs.ConfigLaw.{told}
use Rattle.notation.proofs.config_text.write_config.Goals as goal

pub returns-clause-tells : goal.returns-clause-tells
returns-clause-tells g c = told
