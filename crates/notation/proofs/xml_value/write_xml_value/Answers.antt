use Rattle.notation.proofs.XmlLaw.{told}
use Rattle.notation.proofs.xml_value.write_xml_value.Goals as goal

pub returns-clause-tells : goal.returns-clause-tells
returns-clause-tells g c = told
