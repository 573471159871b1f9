use Rattle.std.proofs.Common.{ap, ◌∙◌}
use Rattle.std.specs.Prelude.{codes}
use Rattle.serde_json.proofs.Views.{view-Object}
use Rattle.serde_json.specs.Data.{Data, object, put}
use Rattle.serde_json.specs.View.{members_view}
use Rattle.command_base.specs.answer_text.config_record.DeviceSeen.{device_numbers}
use Rattle.cert_maker.specs.res_value.Goal.{goal_seen}
use Rattle.resource_text.specs.DeviceJson.{device_data}
use Rattle.resource_text.specs.GoalEndJson.{with_goal_end}
use Rattle.resource_text.specs.VerdictJson.{shown_device_data}
use Rattle.resource_text.proofs.verdict_json.shown_device_json.Goals as goal

pub returns : goal.returns
unfolding shown_device_data
returns c =
    let d = device_numbers c.args.device.now in
    view-Object c.put_goal_end.new.members
    ∙ ap object (c.in_ok-put_goal_end.ensures
    ∙ ap (with_goal_end c.args.naming.now d (goal_seen c.args.goal.now)) (c.in_ok-put.ensures.ok
    ∙ ap (λ (device : Data). put (codes "device") device (members_view c.new-members.result.entries)) c.in_ok-device_json.ensures
    ∙ ap (put (codes "device") (device_data d)) (ap (λ entries. members_view entries) c.new-members.ensures.empty)))
