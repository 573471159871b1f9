use Rattle.std.proofs.KnownBytes.{Appends-trans}
use Rattle.std.proofs.lemmas.Result.{on_ok_weaker}
use Rattle.answer_text.specs.EndText.{end_line}
use Rattle.answer_text.proofs.end.write_end_line.Goals as goal

pub returns : goal.returns
unfolding end_line
returns g c =
    let to_end = Appends-trans _ _ _ _ _ c.in_ok-write_all.ensures.bytes c.in_ok-end_text.ensures in
    on_ok_weaker c.write_all-2.result (λ last. Appends-trans _ _ _ _ _ to_end last) c.write_all-2.ensures.bytes
