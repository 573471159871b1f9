use Rattle.resource_tool.proofs.NoFloats.{lacks-no_float}
use Rattle.resource_tool.proofs.survey.json.write_lacks_json.Goals as goal

pub write_line-requires : goal.write_line-requires
write_line-requires g c =
    rw (c.in_ok-put-2.ensures.ok, c.from.ensures, c.in_ok-put.ensures.ok, c.in_ok-name.ensures, c.name.ensures, c.in_ok-members.ensures)
    (lacks-no_float c.args.coord)
