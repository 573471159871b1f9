use Rattle.std.proofs.Common.{ap, ◌∙◌}
use Rattle.std.specs.Prelude.{codes}
use Rattle.serde_json.proofs.Views.{view-Object}
use Rattle.serde_json.specs.Data.{Data, object, put}
use Rattle.serde_json.specs.View.{members_view}
use Rattle.answer_text.specs.ContentSeen.{value_content_of}
use Rattle.resource_text.specs.ContentJson.{value_data, with_stored, with_value}
use Rattle.resource_text.specs.TextJson.{text_data}
use Rattle.resource_text.proofs.content_json.value_with.Goals as goal

pub returns : goal.returns
unfolding value_data
returns c =
    view-Object c.put_value.new.members
    ∙ ap object (c.in_ok-put_value.ensures
    ∙ ap (with_value c.args.packages.now (value_content_of c.args.value.now)) (c.in_ok-put_stored.ensures
    ∙ ap (with_stored c.args.stored) (c.in_ok-put.ensures.ok
    ∙ ap (λ (text : Data). put (codes "xml") text (members_view c.new-members.result.entries)) c.in_ok-text_json.ensures
    ∙ ap (put (codes "xml") (text_data c.args.xml.now)) (ap (λ entries. members_view entries) c.new-members.ensures.empty))))
