use Rattle.cert_checker.proofs.HeadlineSteps.{ids_end}
use Rattle.cert_checker.proofs.laws.ids_end_by_references.Goals as goal

pub returns : goal.returns
returns c = ids_end
