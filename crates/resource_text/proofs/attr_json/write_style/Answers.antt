use Rattle.std.proofs.Common.{OnOk, subst, ap, ◌∙◌}
use Rattle.std.specs.Io.KnownBytes.{Appends}
use Rattle.std.specs.Prelude.{codes}
use Rattle.serde_json.specs.Data.{Data, Members, put}
use Rattle.serde_json.specs.View.{view, members_view}
use Rattle.serde_json.specs.Written.{has_float, members_have_float}
use Rattle.resource_text.specs.AttrJson.{setting_data, style_json, with_own}
use Rattle.resource_text.specs.EndJson.{with_id}
use Rattle.resource_text.specs.LineJson.{line_members, line_json}
use Rattle.resource_text.proofs.NoFloat.{put-no_float}
use Rattle.resource_text.proofs.NoFloatLines.{id-no_float, line-no_float}
use Rattle.resource_text.proofs.VerdictNoFloat.{own-no_float, setting-no_float}
use Rattle.resource_text.proofs.attr_json.write_style.Goals as goal

pub write_line-requires : goal.write_line-requires
write_line-requires g c =
    let naming = c.args.naming.now in
    let step = c.args.step in
    let named = ap members_have_float (c.in_ok-put_id.ensures ∙ ap (with_id naming step.style.0) c.in_ok-members.ensures)
    ∙ id-no_float naming step.style.0 (line_members (codes "style")) (line-no_float (codes "style")) in
    let setting = ap has_float c.in_ok-setting_json.ensures ∙ setting-no_float step.setting in
    let decided = ap members_have_float c.in_ok-put.ensures.ok ∙ put-no_float (codes "decision") (view c.in_ok-setting_json.field-0) (members_view c.put_id.new.members.entries) setting named in
    ap members_have_float c.in_ok-put_own.ensures ∙ own-no_float naming step.own (members_view c.put.new.map.entries) decided

pub returns : goal.returns
unfolding style_json
returns g c =
    let contents = g.W.Write.contents in
    let naming = c.args.naming.now in
    let step = c.args.step in
    let named = c.in_ok-put_id.ensures ∙ ap (with_id naming step.style.0) c.in_ok-members.ensures in
    let decided =
    c.in_ok-put.ensures.ok
    ∙ ap (λ (d : Data). put (codes "decision") d (members_view c.put_id.new.members.entries)) c.in_ok-setting_json.ensures
    ∙ ap (put (codes "decision") (setting_data step.setting)) named in
    let members = c.in_ok-put_own.ensures ∙ ap (with_own naming step.own) decided in
    subst (λ (ms : Members). OnOk c.write_line.result (Appends (contents c.args.out.now) (contents c.write_line.new.out) (line_json ms))) members c.write_line.ensures
