use Rattle.std.proofs.Common.{append_assoc}
use Rattle.resource_text.specs.VerdictJson.{accepted_json}
use Rattle.resource_text.proofs.verdict_json.write_accepted_json.Goals as goal

pub returns : goal.returns
unfolding accepted_json
returns g c = simp append_assoc c.writeln.ensures.bytes
