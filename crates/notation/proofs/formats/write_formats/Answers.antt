use Rattle.notation.proofs.FormatsLaw.{told}
use Rattle.notation.proofs.formats.write_formats.Goals as goal

pub returns-clause-tells : goal.returns-clause-tells
returns-clause-tells g c = told
