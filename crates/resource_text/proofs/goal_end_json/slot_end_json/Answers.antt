use Rattle.std.proofs.Common.{ap, ◌∙◌}
use Rattle.serde_json.proofs.Views.{view-Object}
use Rattle.serde_json.specs.Data.{object}
use Rattle.serde_json.specs.View.{members_view}
use Rattle.resource_text.specs.EndJson.{with_end}
use Rattle.resource_text.specs.GoalEndJson.{slot_end_data, with_layer_of}
use Rattle.resource_text.proofs.goal_end_json.slot_end_json.Goals as goal

pub returns : goal.returns
unfolding slot_end_data
returns c =
    view-Object c.put_end.new.members
    ∙ ap object (c.in_ok-put_end.ensures
    ∙ ap (with_end c.args.naming.now c.args.end) (c.in_ok-put_layer_of.ensures
    ∙ ap (with_layer_of c.args.naming.now c.args.end) (ap (λ entries. members_view entries) c.new-members.ensures.empty)))
