use Rattle.resource_tool.proofs.NoFloats.{shared-no_float}
use Rattle.resource_tool.proofs.survey.json.write_shared_json.Goals as goal

pub write_line-requires : goal.write_line-requires
write_line-requires g c =
    rw (c.in_ok-put-2.ensures.ok, c.from-2.ensures, c.in_ok-put_site.ensures, c.in_ok-put.ensures.ok, c.from.ensures, c.in_ok-members.ensures)
    (shared-no_float c.args.shared)
