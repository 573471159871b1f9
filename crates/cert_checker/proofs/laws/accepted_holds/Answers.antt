use Rattle.cert_checker.proofs.HeadlineSteps.{accepted}
use Rattle.cert_checker.proofs.laws.accepted_holds.Goals as goal

pub returns : goal.returns
returns c = accepted
