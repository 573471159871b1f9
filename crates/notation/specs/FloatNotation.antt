-- Floats of 32 bits as decimals (IEEE 754): bit 31 is the sign, 23 to 30 are the exponent, 0 to 22 the fraction.
use Rattle.std.specs.Prelude.{ℕ, ◌+◌, ◌-◌, ◌*◌, ◌/◌, ◌%◌, ◌^◌, ◌==◌, ◌&&◌, nat_le, Bool, List, [], ◌++◌, codes, Option, Some, None, if◌then◌else◌}
use Rattle.notation.specs.declared.exact.Exact.{Exact}
use Rattle.notation.specs.Decimal.{decimal_with, places_of}

abbrev pub exponent_of : ℕ → ℕ
exponent_of word = word / 2 ^ 23 % 2 ^ 8

abbrev pub fraction_of : ℕ → ℕ
fraction_of word = word % 2 ^ 23

abbrev pub float_sign : ℕ → List ℕ
float_sign word = if word / 2 ^ 31 == 0 then [] else codes "-"

abbrev pub is_zero_float : ℕ → Bool
is_zero_float word = word % 2 ^ 31 == 0

-- how far apart a float and its next are, in halves: below a power of two they are nearer
abbrev pub gap_of : ℕ → ℕ
gap_of word = if fraction_of word == 0 then 1 else 2

-- in halves of its last bit, since a gap may be half of that
unfoldable pub exact_float : ℕ → Exact
exact_float word =
    let scale = 2 ^ (exponent_of word - 151) in
    record {
      number = 2 * (2 ^ 23 + fraction_of word) * scale;
      last = gap_of word * scale;
      radix = 151 - exponent_of word;
    }

-- from 2^-35 on, and below 2^59
abbrev pub has_decimal : ℕ → Bool
has_decimal word = nat_le 92 (exponent_of word) && nat_le (exponent_of word) 185

abbrev pub at_least_one : ℕ → ℕ
at_least_one places = if places == 0 then 1 else places

-- with a digit behind the point
unfoldable pub float_decimal : Exact → List ℕ
float_decimal exact = decimal_with exact (at_least_one (places_of exact))

unfoldable pub float_notation : ℕ → Option (List ℕ)
float_notation word =
    if is_zero_float word then Some (float_sign word ++ codes "0.0")
    else if has_decimal word then Some (float_sign word ++ float_decimal (exact_float word))
    else None
