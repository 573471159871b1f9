use Rattle.std.proofs.Common.{ap, ◌∙◌}
use Rattle.serde_json.proofs.Views.{view-Object}
use Rattle.serde_json.specs.Data.{object, put}
use Rattle.serde_json.specs.View.{view, members_view}
use Rattle.cert_tree.proofs.object.object_of_three.Goals as goal

pub returns : goal.returns
returns c =
    view-Object c.put-3.new.map
    ∙ ap object (c.in_ok-put-3.ensures.ok
    ∙ ap (put c.args.third.0.now (view c.args.third.1)) (c.in_ok-put-2.ensures.ok
    ∙ ap (put c.args.second.0.now (view c.args.second.1)) (c.in_ok-put.ensures.ok
    ∙ ap (put c.args.first.0.now (view c.args.first.1)) (ap (λ entries. members_view entries) c.new-members.ensures.empty))))
