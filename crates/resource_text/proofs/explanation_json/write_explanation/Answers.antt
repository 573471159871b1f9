use Rattle.std.proofs.Common.{ap, ◌∙◌}
use Rattle.std.proofs.KnownBytes.{Appends-trans}
use Rattle.std.proofs.lemmas.Result.{on_ok_weaker}
use Rattle.std.specs.Prelude.{codes}
use Rattle.serde_json.specs.Written.{members_have_float}
use Rattle.reference_resolver.specs.config_precedence.config_record.DeviceSeen.{device_numbers}
use Rattle.resource_text.specs.EndJson.{with_end_at}
use Rattle.resource_text.specs.ExplainJson.{explain_json}
use Rattle.resource_text.specs.LineJson.{line_members}
use Rattle.resource_text.proofs.NoFloatLines.{end_at-no_float, line-no_float}
use Rattle.resource_text.proofs.explanation_json.write_explanation.Goals as goal

pub write_line-requires : goal.write_line-requires
write_line-requires g c =
    let naming = c.args.naming.now in
    let d = device_numbers c.args.device.now in
    ap members_have_float (c.in_ok-put_end_at.ensures ∙ ap (with_end_at naming d c.args.id.0) c.in_ok-end.ensures)
    ∙ end_at-no_float naming d c.args.id.0 (line_members (codes "end")) (line-no_float (codes "end"))

pub returns : goal.returns
unfolding explain_json
returns g c =
    let members = c.in_ok-put_end_at.ensures ∙ ap (with_end_at c.args.naming.now (device_numbers c.args.device.now) c.args.id.0) c.in_ok-end.ensures in
    let line = rw members at c.write_line.ensures in
    on_ok_weaker c.write_line.result (λ last. Appends-trans _ _ _ _ _ c.in_ok-write_look_ups.ensures last) line
