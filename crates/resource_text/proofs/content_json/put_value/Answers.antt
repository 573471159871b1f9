use Rattle.std.proofs.Common.{sym, ap, ◌∙◌}
use Rattle.std.proofs.lemmas.Result.{on_ok_weaker}
use Rattle.std.specs.Prelude.{codes}
use Rattle.serde_json.specs.Data.{Data, put}
use Rattle.serde_json.specs.View.{members_view}
use Rattle.answer_text.specs.ContentSeen.{value_content_of}
use Rattle.answer_text.specs.declared.content.ValueContent.{ValueContent}
use Rattle.resource_text.specs.ContentJson.{with_value}
use Rattle.resource_text.proofs.content_json.put_value.Goals as goal

pub returns-in_ok-name-in-Reference : goal.returns-in_ok-name-in-Reference
unfolding with_value
returns-in_ok-name-in-Reference c =
    let old = members_view c.args.members.now.entries in
    on_ok_weaker c.put-in-Reference.result
    (λ is.
    is ∙ ap (λ (name : Data). put (codes "reference") name old) c.in_ok-name-in-Reference.ensures
    ∙ sym (ap (λ (value : ValueContent). with_value c.args.packages.now (value_content_of value) old) c.in-Reference.is)) c.put-in-Reference.ensures.ok

pub returns-in_ok-name-in-Attribute : goal.returns-in_ok-name-in-Attribute
unfolding with_value
returns-in_ok-name-in-Attribute c =
    let old = members_view c.args.members.now.entries in
    on_ok_weaker c.put-in-Attribute.result
    (λ is.
    is ∙ ap (λ (name : Data). put (codes "attribute") name old) c.in_ok-name-in-Attribute.ensures
    ∙ sym (ap (λ (value : ValueContent). with_value c.args.packages.now (value_content_of value) old) c.in-Attribute.is)) c.put-in-Attribute.ensures.ok
