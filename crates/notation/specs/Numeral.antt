-- Numbers as digits.
use Rattle.std.specs.Prelude.{ℕ, ◌+◌, ◌-◌, ◌*◌, ◌^◌, ◌&&◌, nat_lt, List, [], ◌∷◌, Option, Some, None, if◌then◌else◌}
use Rattle.config_record.specs.locales.Locale.{is_digit, first_digit}

-- the number with one more digit
abbrev pub with_digit : ℕ → ℕ → ℕ
with_digit n byte = n * 10 + (byte - first_digit)

-- with more digits, where no other byte is among them and the number fits in 64 bits
unfoldable pub with_digits : ℕ → List ℕ → Option ℕ
with_digits n [] = Some n
with_digits n (byte ∷ bytes) =
    if is_digit byte && nat_lt (with_digit n byte) (2 ^ 64) then with_digits (with_digit n byte) bytes else None

-- one digit or more
unfoldable pub number_of : List ℕ → Option ℕ
number_of [] = None
number_of (byte ∷ bytes) = with_digits 0 (byte ∷ bytes)
