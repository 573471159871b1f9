use Rattle.std.proofs.KnownBytes.{Appends-trans}
use Rattle.std.proofs.lemmas.Result.{on_ok_weaker}
use Rattle.answer_text.specs.EndText.{value_end_text}
use Rattle.answer_text.proofs.end.write_value_end.Goals as goal

pub returns : goal.returns
unfolding value_end_text
returns g c =
    let to_layer = Appends-trans _ _ _ _ _ c.in_ok-write_all.ensures.bytes c.in_ok-write_layer.ensures in
    let to_space = Appends-trans _ _ _ _ _ to_layer c.in_ok-write_all-2.ensures.bytes in
    on_ok_weaker c.write_value_with_string.result (λ last. Appends-trans _ _ _ _ _ to_space last) c.write_value_with_string.ensures
