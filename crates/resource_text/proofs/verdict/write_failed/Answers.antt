use Rattle.std.proofs.Common.{append_assoc}
use Rattle.resource_text.specs.VerdictText.{failed_line}
use Rattle.resource_text.proofs.verdict.write_failed.Goals as goal

pub returns : goal.returns
unfolding failed_line
returns g c = simp append_assoc c.writeln.ensures.bytes
