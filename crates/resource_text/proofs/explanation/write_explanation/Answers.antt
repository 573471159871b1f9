use Rattle.std.proofs.KnownBytes.{Appends-trans}
use Rattle.std.proofs.lemmas.Result.{on_ok_weaker}
use Rattle.resource_text.specs.ExplainNotation.{explain_notation}
use Rattle.resource_text.proofs.explanation.write_explanation.Goals as goal

pub returns : goal.returns
unfolding explain_notation
returns g c =
    let to_end = Appends-trans _ _ _ _ _ c.in_ok-write_look_ups.ensures c.in_ok-write_end_within.ensures in
    on_ok_weaker c.write_all.result (λ last. Appends-trans _ _ _ _ _ to_end last) c.write_all.ensures.bytes
