use Rattle.std.proofs.KnownBytes.{Appends-trans}
use Rattle.std.proofs.lemmas.Result.{on_ok_weaker}
use Rattle.answer_text.specs.ExplainText.{place_text}
use Rattle.answer_text.proofs.explanation.write_place.Goals as goal

pub returns : goal.returns
unfolding place_text
returns g c =
    let to_space = Appends-trans _ _ _ _ _ c.in_ok-write_named_number.ensures c.in_ok-write_all.ensures.bytes in
    on_ok_weaker c.write_layer.result (λ last. Appends-trans _ _ _ _ _ to_space last) c.write_layer.ensures
