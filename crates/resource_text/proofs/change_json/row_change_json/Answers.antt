use Rattle.std.proofs.Common.{ap, ◌∙◌}
use Rattle.serde_json.proofs.Views.{view-Object}
use Rattle.serde_json.specs.Data.{object}
use Rattle.serde_json.specs.View.{members_view}
use Rattle.stack_diff.specs.DifferenceSeen.{row_difference_of}
use Rattle.resource_text.specs.ChangeJson.{with_row_change}
use Rattle.resource_text.proofs.change_json.row_change_json.Goals as goal

pub returns : goal.returns
returns c =
    view-Object c.put_row_change.new.members
    ∙ ap object (c.in_ok-put_row_change.ensures ∙ ap (with_row_change c.args.packages.now (row_difference_of c.args.row.now)) (ap (λ entries. members_view entries) c.new-members.ensures.empty))
