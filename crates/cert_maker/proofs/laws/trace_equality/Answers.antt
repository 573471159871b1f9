use Rattle.cert_checker.proofs.reference_resolver.SameTraces.{tells-equal}
use Rattle.cert_maker.proofs.laws.trace_equality.Goals as goal

pub returns : goal.returns
returns c = tells-equal
