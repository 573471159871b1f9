use Rattle.std.proofs.KnownBytes.{Appends-trans}
use Rattle.std.proofs.lemmas.Result.{on_ok_weaker}
use Rattle.answer_text.specs.NamedText.{named_id}
use Rattle.answer_text.proofs.named.write_named_id.Goals as goal

pub returns : goal.returns
unfolding named_id
returns g c =
    let first = rw c.as_bytes.ensures.value at c.in_ok-write_all.ensures.bytes in
    let to_space = Appends-trans _ _ _ _ _ first c.in_ok-write_all-2.ensures.bytes in
    on_ok_weaker c.write_id.result (λ last. Appends-trans _ _ _ _ _ to_space last) c.write_id.ensures.text
