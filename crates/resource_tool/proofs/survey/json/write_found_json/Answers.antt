use Rattle.std.specs.Prelude.{map, string_bytes}
use Rattle.resource_tool.proofs.NoFloats.{found-no_float}
use Rattle.resource_tool.proofs.survey.json.write_found_json.Goals as goal

pub write_line-requires : goal.write_line-requires
write_line-requires g c =
    rw (c.in_ok-put-3.ensures.ok, c.from-2.ensures, c.differs.ensures, c.in_ok-put_from.ensures, c.in_ok-put_site.ensures, c.in_ok-put-2.ensures.ok, c.in_ok-name.ensures, c.name.ensures, c.in_ok-put.ensures.ok, c.from.ensures, c.in_ok-members.ensures)
    (found-no_float (map string_bytes c.args.paths.now) c.args.layer c.args.finding c.args.tally)
