use Rattle.std.proofs.Common.{◌≡◌, ◌≤◌, ◌^◌, ◌/◌, arith}
use Rattle.std.proofs.Math.Nat.{div-eq_of_lt}
use Rattle.std.proofs.Math.Pow.{pow_mono}
use Rattle.std.proofs.lemmas.Bool.{le-ltb}
use Rattle.notation.proofs.formats.is_set.Goals as goal

pub returns-else-bit-lt-BITS : goal.returns-else-bit-lt-BITS
returns-else-bit-lt-BITS c =
    let most : 2 ^ 32 ≤ 2 ^ c.args.bit = pow_mono c.if-bit-lt-BITS.false in
    let fits = c.ranges.bits.fits in
    let none : c.args.bits / 2 ^ c.args.bit ≡ 0 = div-eq_of_lt (omega (arith, fits, most)) in
    rw none (le-ltb c.args.bit 32 c.if-bit-lt-BITS.false)
