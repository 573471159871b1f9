use Rattle.resource_tool.proofs.NoFloats.{qualifier-no_float}
use Rattle.resource_tool.proofs.survey.json.write_qualifier_json.Goals as goal

pub write_line-requires : goal.write_line-requires
write_line-requires g c =
    rw (c.in_ok-put-4.ensures.ok, c.in_ok-greatest.ensures, c.in_ok-put-3.ensures.ok, c.in_ok-least.ensures, c.in_ok-put-2.ensures.ok, c.from.ensures, c.in_ok-put.ensures.ok, c.in_ok-name.ensures, c.name.ensures, c.in_ok-members.ensures)
    (qualifier-no_float c.args.coord c.args.spread)
