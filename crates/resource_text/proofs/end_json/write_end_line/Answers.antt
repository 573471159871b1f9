use Rattle.std.proofs.Common.{ap, ◌∙◌}
use Rattle.std.specs.Prelude.{codes}
use Rattle.serde_json.specs.Written.{members_have_float}
use Rattle.reference_resolver.specs.config_precedence.config_record.DeviceSeen.{device_numbers}
use Rattle.resource_text.specs.EndJson.{with_id, with_end_at}
use Rattle.resource_text.specs.LineJson.{line_members}
use Rattle.resource_text.proofs.NoFloatLines.{id-no_float, end_at-no_float, line-no_float}
use Rattle.resource_text.proofs.end_json.write_end_line.Goals as goal

pub write_line-requires : goal.write_line-requires
write_line-requires g c =
    let naming = c.args.naming.now in
    let id = c.args.id.0 in
    let d = device_numbers c.args.device.now in
    let line = line_members (codes "end") in
    ap members_have_float (c.in_ok-put_end_at.ensures ∙ ap (with_end_at naming d id) (c.in_ok-put_id.ensures ∙ ap (with_id naming id) c.in_ok-members.ensures))
    ∙ end_at-no_float naming d id (with_id naming id line) (id-no_float naming id line (line-no_float (codes "end")))
