use Rattle.std.proofs.KnownBytes.{Appends-trans}
use Rattle.notation.proofs.WrittenSteps.{written_on}
use Rattle.notation.proofs.number_word.write_in_letters.Goals as goal

pub returns : goal.returns
returns g c =
    let signed = Appends-trans _ _ _ _ _ c.in_ok-write_all.ensures.bytes c.in_ok-write_all-2.ensures.bytes in
    let number = Appends-trans _ _ _ _ _ signed c.in_ok-write.ensures.bytes in
    written_on _ _ _ c.write_all-3.result _ _ number c.write_all-3.ensures.bytes
