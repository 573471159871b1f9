use Rattle.std.proofs.KnownBytes.{Appends-trans}
use Rattle.std.proofs.lemmas.Result.{on_ok_weaker}
use Rattle.answer_text.specs.ExplainText.{look_up_text}
use Rattle.answer_text.proofs.explanation.write_look_up.Goals as goal

pub returns : goal.returns
unfolding look_up_text
returns g c =
    let to_name = Appends-trans _ _ _ _ _ c.in_ok-write_named_id.ensures c.in_ok-write.ensures in
    let to_line = Appends-trans _ _ _ _ _ to_name c.in_ok-write_all.ensures.bytes in
    rw (c.stack.ensures) at (on_ok_weaker c.write_candidates.result (λ last. Appends-trans _ _ _ _ _ to_line last) c.write_candidates.ensures)
