use Rattle.std.proofs.Common.{None, ap, ◌∙◌}
use Rattle.serde_json.proofs.Views.{view-Object}
use Rattle.serde_json.specs.Data.{object}
use Rattle.serde_json.specs.View.{members_view}
use Rattle.answer_text.specs.ContentSeen.{row_content_of}
use Rattle.resource_text.specs.ContentJson.{with_row}
use Rattle.resource_text.proofs.content_json.row_json.Goals as goal

pub returns : goal.returns
returns c =
    let row = row_content_of c.args.row.now in
    view-Object c.put_row.new.members
    ∙ ap object (c.in_ok-put_row.ensures ∙ ap (with_row c.args.packages.now None row.key row.value) (ap (λ entries. members_view entries) c.new-members.ensures.empty))
