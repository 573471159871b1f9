use Rattle.std.proofs.Common.{append_assoc}
use Rattle.resource_text.specs.VerdictJson.{failed_json}
use Rattle.resource_text.proofs.verdict_json.write_failed_json.Goals as goal

pub returns : goal.returns
unfolding failed_json
returns g c = simp append_assoc c.writeln.ensures.bytes
