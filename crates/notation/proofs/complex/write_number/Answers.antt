use Rattle.std.proofs.KnownBytes.{Appends-trans}
use Rattle.notation.proofs.WrittenSteps.{written_on}
use Rattle.notation.proofs.complex.write_number.Goals as goal

pub returns : goal.returns
returns g c =
    let number = Appends-trans _ _ _ _ _ c.in_ok-write_sign.ensures c.in_ok-write_decimal.ensures in
    rw (← c.exact.ensures.value) (written_on _ _ _ c.write_all.result _ _ number c.write_all.ensures.bytes)
