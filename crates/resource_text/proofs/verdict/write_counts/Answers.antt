use Rattle.std.proofs.Common.{append_assoc}
use Rattle.resource_text.specs.VerdictText.{accepted_line}
use Rattle.resource_text.proofs.verdict.write_counts.Goals as goal

pub returns : goal.returns
unfolding accepted_line
returns g c = simp append_assoc c.writeln.ensures.bytes
