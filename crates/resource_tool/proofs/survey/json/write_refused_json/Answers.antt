use Rattle.std.specs.Prelude.{map, string_bytes}
use Rattle.resource_tool.proofs.NoFloats.{refused-no_float}
use Rattle.resource_tool.proofs.survey.json.write_refused_json.Goals as goal

pub write_line-requires : goal.write_line-requires
write_line-requires g c =
    rw (c.in_ok-put_from.ensures, c.in_ok-put.ensures.ok, c.in_ok-text_json.ensures, c.in_ok-members.ensures)
    (refused-no_float (map string_bytes c.args.paths.now) _ _)
