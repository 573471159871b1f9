use Rattle.std.proofs.Common.{ap, ◌∙◌}
use Rattle.serde_json.proofs.Views.{view-Object}
use Rattle.serde_json.specs.Data.{object, put}
use Rattle.serde_json.specs.View.{view, members_view}
use Rattle.cert_tree.proofs.object.object_of_one.Goals as goal

pub returns : goal.returns
returns c =
    view-Object c.put.new.map
    ∙ ap object (c.in_ok-put.ensures.ok
    ∙ ap (put c.args.member.0.now (view c.args.member.1)) (ap (λ entries. members_view entries) c.new-members.ensures.empty))
