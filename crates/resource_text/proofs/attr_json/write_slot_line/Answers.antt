use Rattle.std.proofs.Common.{ap, ◌∙◌}
use Rattle.std.specs.Prelude.{codes}
use Rattle.serde_json.specs.View.{view, members_view}
use Rattle.serde_json.specs.Written.{members_have_float}
use Rattle.resource_text.proofs.NoFloat.{put-no_float}
use Rattle.resource_text.proofs.NoFloatLines.{line-no_float}
use Rattle.resource_text.proofs.attr_json.write_slot_line.Goals as goal

pub write_line-requires : goal.write_line-requires
write_line-requires g c =
    let lined = ap members_have_float c.in_ok-members.ensures ∙ line-no_float (codes "end") in
    ap members_have_float c.in_ok-put.ensures.ok ∙ put-no_float (codes "end") (view c.args.end) (members_view c.in_ok-members.members.entries) c.requires lined
