use Rattle.std.proofs.Common.{append_assoc}
use Rattle.std.proofs.KnownBytes.{Appends-trans}
use Rattle.std.proofs.lemmas.Result.{on_ok_weaker}
use Rattle.answer_text.specs.CellText.{bag_text}
use Rattle.answer_text.specs.NamedText.{named_id, named_number}
use Rattle.answer_text.proofs.cell.write_bag.Goals as goal

pub returns : goal.returns
unfolding bag_text named_id named_number
returns g c =
    simp append_assoc
    (on_ok_weaker c.write_named_number.result (λ last. Appends-trans _ _ _ _ _ c.in_ok-write_named_id.ensures last) c.write_named_number.ensures)
