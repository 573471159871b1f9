use Rattle.std.proofs.Common.{ap, ◌∙◌}
use Rattle.std.specs.Prelude.{codes}
use Rattle.serde_json.specs.View.{view, members_view}
use Rattle.serde_json.specs.Written.{has_float, members_have_float}
use Rattle.resource_text.proofs.NoFloat.{put-no_float, text-no_float}
use Rattle.resource_text.proofs.NoFloatLines.{from_layer-no_float, line-no_float}
use Rattle.resource_text.proofs.VerdictNoFloat.{row_at-no_float}
use Rattle.resource_text.proofs.bag_json.write_row.Goals as goal

pub write_line-requires : goal.write_line-requires
write_line-requires g c =
    let naming = c.args.naming.now in
    let row = c.args.row in
    let lined = ap members_have_float c.in_ok-members.ensures ∙ line-no_float (codes "row") in
    let id = ap has_float c.in_ok-id.ensures ∙ text-no_float _ in
    let named = ap members_have_float c.in_ok-put.ensures.ok ∙ put-no_float (codes "id") (view c.in_ok-id.id) (members_view c.in_ok-members.members.entries) id lined in
    let told = ap members_have_float c.in_ok-put_row.ensures ∙ row_at-no_float naming c.args.keys c.args.place row (members_view c.put.new.map.entries) named in
    ap members_have_float c.in_ok-put_from_layer.ensures ∙ from_layer-no_float naming row.layer (members_view c.put_row.new.members.entries) told
