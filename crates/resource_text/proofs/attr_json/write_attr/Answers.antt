use Rattle.std.proofs.Common.{ap, ◌∙◌}
use Rattle.std.specs.Prelude.{codes}
use Rattle.serde_json.specs.Written.{members_have_float}
use Rattle.resource_text.specs.EndJson.{with_id}
use Rattle.resource_text.specs.LineJson.{line_members}
use Rattle.resource_text.proofs.NoFloatLines.{id-no_float, line-no_float}
use Rattle.resource_text.proofs.attr_json.write_attr.Goals as goal

pub write_line-requires : goal.write_line-requires
write_line-requires g c =
    let naming = c.args.naming.now in
    ap members_have_float (c.in_ok-put_id.ensures ∙ ap (with_id naming c.args.attr.0) c.in_ok-members.ensures)
    ∙ id-no_float naming c.args.attr.0 (line_members (codes "attribute")) (line-no_float (codes "attribute"))
