use Rattle.std.proofs.KnownBytes.{Appends-trans}
use Rattle.std.proofs.lemmas.Result.{on_ok_weaker}
use Rattle.answer_text.specs.NamedText.{named_coord}
use Rattle.answer_text.proofs.named.write_named_coord.Goals as goal

pub returns : goal.returns
unfolding named_coord
returns g c =
    let first = rw c.as_bytes.ensures.value at c.in_ok-write_all.ensures.bytes in
    let last = rw (c.as_bytes-2.ensures.value, c.name.ensures) at c.write_all-3.ensures.bytes in
    let to_space = Appends-trans _ _ _ _ _ first c.in_ok-write_all-2.ensures.bytes in
    on_ok_weaker c.write_all-3.result (λ behind. Appends-trans _ _ _ _ _ to_space behind) last
