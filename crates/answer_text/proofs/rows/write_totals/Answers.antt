use Rattle.std.proofs.Common.{append_assoc}
use Rattle.std.proofs.KnownBytes.{Appends-trans}
use Rattle.std.proofs.lemmas.Result.{on_ok_weaker}
use Rattle.answer_text.specs.NamedText.{named_number}
use Rattle.answer_text.specs.RowsText.{totals_text}
use Rattle.answer_text.proofs.rows.write_totals.Goals as goal

pub returns : goal.returns
unfolding totals_text named_number
returns g c =
    simp append_assoc
    (on_ok_weaker c.write_all.result
    (λ last. Appends-trans _ _ _ _ _ c.in_ok-write_named_number.ensures (Appends-trans _ _ _ _ _ c.in_ok-write_named_number-2.ensures last)) c.write_all.ensures.bytes)
