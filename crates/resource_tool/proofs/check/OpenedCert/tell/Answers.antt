use Rattle.std.proofs.Common.{map, string_bytes}
use Rattle.resource_text.specs.cert_maker.res_value.Goal.{goal_seen}
use Rattle.resource_tool.proofs.CheckSteps.{told-beside}
use Rattle.resource_tool.specs.Check.{telling_of}
use Rattle.resource_tool.specs.OpenedSeen.{opened_cert}
use Rattle.resource_tool.proofs.check.OpenedCert.tell.Goals as goal

pub returns-clause-both : goal.returns-clause-both
returns-clause-both g c =
    told-beside g.W.Write.contents g.E.Write.contents c.args.out.now c.write_all.new.self c.args.errors.now c.say.new.errors (map goal_seen c.args.goals.now) (telling_of c.args.asked.now (map string_bytes c.args.paths.now))
    (opened_cert c.args.self) c.in_ok-verdict.verdict c.status_of_verdict-status.result c.in-Ok.told.text.items c.in-Ok.told.lines.items c.in_ok-verdict.ensures.verdict
    c.in_ok-verdict.ensures.headline c.status_of_verdict-status.ensures c.in-Ok.ensures
    (rw c.deref.ensures.value at c.in_ok-write_all.ensures.bytes) (rw c.deref-2.ensures.value at c.in_ok-say.ensures.said)
