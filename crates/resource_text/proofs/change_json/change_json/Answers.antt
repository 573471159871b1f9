use Rattle.std.proofs.Common.{ap, ◌∙◌}
use Rattle.serde_json.proofs.Views.{view-Object}
use Rattle.serde_json.specs.Data.{object}
use Rattle.serde_json.specs.View.{members_view}
use Rattle.stack_diff.specs.DifferenceSeen.{difference_of}
use Rattle.resource_text.specs.ChangeJson.{with_devices, with_difference}
use Rattle.resource_text.proofs.change_json.change_json.Goals as goal

pub returns : goal.returns
returns c =
    view-Object c.put_devices.new.members
    ∙ ap object (c.in_ok-put_devices.ensures
    ∙ ap (with_devices c.args.whole.now c.args.part.now) (c.in_ok-put_difference.ensures
    ∙ ap (with_difference c.args.packages.now (difference_of c.args.difference.now)) (ap (λ entries. members_view entries) c.new-members.ensures.empty)))
