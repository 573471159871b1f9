use Rattle.std.proofs.Common.{ap, ◌∙◌}
use Rattle.std.proofs.lemmas.Result.{on_ok_weaker}
use Rattle.std.specs.Prelude.{codes}
use Rattle.serde_json.specs.Data.{Data, put}
use Rattle.serde_json.specs.View.{members_view}
use Rattle.resource_text.specs.TextJson.{number_data}
use Rattle.resource_text.proofs.content_json.put_kind_and_word.Goals as goal

pub returns : goal.returns
returns c =
    let old = members_view c.args.members.now.entries in
    let kind = c.in_ok-put.ensures.ok ∙ ap (λ (kind : Data). put (codes "kind") kind old) c.from.ensures in
    on_ok_weaker c.put-2.result
    (λ is.
    is ∙ ap (λ (word : Data). put (codes "word") word (members_view c.put.new.map.entries)) c.from-2.ensures
    ∙ ap (put (codes "word") (number_data c.args.value.word)) kind) c.put-2.ensures.ok
