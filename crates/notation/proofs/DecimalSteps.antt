-- Bounds of decimals.
use Rattle.std.proofs.Common.{◌≡◌, ℕ, ◌+◌, ◌*◌, ◌/◌, ◌^◌, ◌<◌, ◌≤◌, List, length, ap, arith}
use Rattle.std.specs.Fmt.{decimal}
use Rattle.std.proofs.Math.Nat.{mul_assoc}
use Rattle.std.proofs.lemmas.Grind.{pow_more}
use Rattle.std.proofs.lemmas.Fmt.{decimal_nonempty}

-- a number has a first digit
pub has_first : (n : ℕ) (text : List ℕ) → text ≡ decimal n → n < 2 ^ 64 → 1 ≤ length text
has_first n text is fits = omega (arith, ap (λ (t : List ℕ). length t) is, decimal_nonempty n fits)

-- rounded to a unit, a number is no more than half of one too great
halved : (number unit double : ℕ) → 0 < unit → double ≡ 2 * unit → (2 * number + unit) / double * unit ≤ number + unit
halved number unit double some is = rw is (omega arith)

pub rounded : (number places radix n ten unit double : ℕ) → n ≡ number → ten ≡ 10 ^ places → unit ≡ 2 ^ radix → double ≡ 2 ^ (radix + 1) → 1 ≤ unit
    → (2 * n * ten + unit) / double * 2 ^ radix ≤ number * 10 ^ places + 2 ^ radix
rounded number places radix n ten unit double same tens units doubles some =
    let twice : double ≡ 2 * unit = omega (arith, doubles, pow_more 2 radix, units) in
    rw (← same, ← tens, ← units, mul_assoc 2 n ten) (halved (n * ten) unit double some twice)
