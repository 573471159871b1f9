use Rattle.std.proofs.Common.{append_assoc}
use Rattle.resource_text.specs.VerdictText.{rejected_line}
use Rattle.resource_text.proofs.verdict.write_rejected.Goals as goal

pub returns : goal.returns
unfolding rejected_line
returns g c = simp append_assoc c.writeln.ensures.bytes
