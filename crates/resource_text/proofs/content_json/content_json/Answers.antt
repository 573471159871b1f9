use Rattle.std.proofs.Common.{ap, ◌∙◌}
use Rattle.serde_json.proofs.Views.{view-Object}
use Rattle.serde_json.specs.Data.{object}
use Rattle.serde_json.specs.View.{members_view}
use Rattle.answer_text.specs.ContentSeen.{content_of}
use Rattle.resource_text.specs.ContentJson.{with_content}
use Rattle.resource_text.proofs.content_json.content_json.Goals as goal

pub returns : goal.returns
returns c =
    view-Object c.put_said.new.members
    ∙ ap object (c.in_ok-put_said.ensures ∙ ap (with_content c.args.packages.now (content_of c.args.content.now)) (ap (λ entries. members_view entries) c.new-members.ensures.empty))
