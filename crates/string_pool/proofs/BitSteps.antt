-- A flag that is a bit of a number.
use Rattle.std.proofs.Common.{◌≡◌, ℕ, ◌/◌, ◌%◌, ◌^◌, ◌*◌}
use Rattle.std.proofs.lemmas.Nat.Bits.{and_pow}
use Rattle.std.specs.Int.RustNames.{bit_and}

-- the ninth bit alone, which is 0 or the flag
pub and-utf8 : (flags : ℕ) → bit_and flags 0x100 ≡ flags / 2 ^ 8 % 2 * 2 ^ 8
and-utf8 flags = and_pow flags 8

pub ruleset bit_steps = and-utf8
