use Rattle.std.proofs.lemmas.Result.{on_ok_weaker}
use Rattle.std.proofs.KnownBytes.{Appends-trans}
use Rattle.resource_tool.specs.Refused.{refused_text}
use Rattle.resource_tool.proofs.survey.refused.write_refused.Goals as goal

pub returns : goal.returns
unfolding refused_text
returns g c =
    on_ok_weaker c.write_refused.result (λ last. Appends-trans _ _ _ _ _ (rw c.new-no_rows.ensures at c.in_ok-write_layers.ensures.text) last) c.write_refused.ensures
