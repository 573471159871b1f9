use Rattle.std.proofs.Common.{rules}
use Rattle.cert_checker.proofs.leaf.is_same.Goals as goal

pub returns : goal.returns
returns c = search rules
