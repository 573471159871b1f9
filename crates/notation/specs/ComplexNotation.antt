-- Dimensions and fractions as XML writes them (AOSP: the units of ResTable::stringToValue).
use Rattle.std.specs.Prelude.{ℕ, ◌*◌, ◌/◌, ◌%◌, ◌^◌, ◌==◌, ◌&&◌, ◌||◌, not, nat_le, Bool, List, [], ◌++◌, codes, slice_get, Option, Some, None, unsigned_abs, int_lt, pos, if◌then◌else◌}
use Rattle.notation.specs.declared.exact.Exact.{Exact}
use Rattle.res_value.specs.Complex.{mantissa_of, radix_of, unit_of}
use Rattle.notation.specs.Decimal.{decimal_text}

-- without its sign
abbrev pub size_of : ℕ → ℕ
size_of word = unsigned_abs (mantissa_of word)

abbrev pub sign_of : ℕ → List ℕ
sign_of word = if int_lt (mantissa_of word) (pos 0) then codes "-" else []

-- bits 6 and 7 say nothing
abbrev pub spare_bits : ℕ → ℕ
spare_bits word = word / 2 ^ 6 % 2 ^ 2

-- Tools put the point of a whole number at its end, and else as far to the left as the number allows. So no two of their words
-- are one number.
abbrev pub has_own_radix : ℕ → Bool
has_own_radix word =
    radix_of word == 0 || (not (size_of word % 2 ^ radix_of word == 0) && (radix_of word == 23 || nat_le (2 ^ 15) (size_of word)))

-- as XML writes it, times so much: a fraction in parts of a hundred
abbrev pub exact_of : ℕ → ℕ → Exact
exact_of times word = record { number = times * size_of word; last = times; radix = radix_of word }

abbrev pub with_unit : ℕ → ℕ → Option (List ℕ) → Option (List ℕ)
with_unit times word None = None
with_unit times word (Some unit) =
    if spare_bits word == 0 && has_own_radix word then Some (sign_of word ++ decimal_text (exact_of times word) ++ unit) else None

-- a number in a unit that has a name
unfoldable pub complex_notation : ℕ → List (List ℕ) → ℕ → Option (List ℕ)
complex_notation times units word = with_unit times word (slice_get units (unit_of word))
