use Rattle.std.proofs.Common.{ap, ◌∙◌}
use Rattle.std.proofs.lemmas.Result.{on_ok_weaker}
use Rattle.std.specs.Prelude.{codes}
use Rattle.serde_json.specs.Data.{Data, put}
use Rattle.serde_json.specs.View.{members_view}
use Rattle.resource_text.specs.EndJson.{with_end_at}
use Rattle.resource_text.proofs.end_json.put_end_at.Goals as goal

pub returns : goal.returns
unfolding with_end_at
returns c = on_ok_weaker c.put.result (λ is. is ∙ ap (λ (e : Data). put (codes "end") e (members_view c.args.members.now.entries)) c.in_ok-end.ensures) c.put.ensures.ok
