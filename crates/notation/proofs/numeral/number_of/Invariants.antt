use Rattle.std.proofs.Common.{◌≡◌, drop}
use Rattle.notation.specs.Numeral.{with_digits}
use Rattle.notation.proofs.numeral.number_of.Given as goal

-- the number so far, and the digits that are left
abbrev pub invariant-digits : goal.invariant-digits
invariant-digits l = with_digits l.number (drop l.digit-index l.digits) ≡ with_digits 0 l.digits
