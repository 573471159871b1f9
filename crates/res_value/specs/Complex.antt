-- Dimensions and fractions: a number, where its point stands, and a unit, all in one word.
use Rattle.std.specs.Prelude.{ℕ, ◌-◌, ◌/◌, ◌%◌, ◌^◌, ℤ, pos, ◌-ℤ◌, List, [], ◌∷◌, ◌++◌, codes, slice_get, slice_index, unwrap_or, nat_lt, if◌then◌else◌}
use Rattle.std.specs.Fmt.{decimal, signed_decimal}

-- the number that so many bits mean, the highest of which is the sign (two's complement)
abbrev pub signed_number : ℕ → ℕ → ℤ
signed_number bits n = if nat_lt n (2 ^ (bits - 1)) then pos n else pos n -ℤ pos (2 ^ bits)

-- bits 8 to 31 are a signed number (AOSP: Res_value::COMPLEX_MANTISSA_SHIFT)
abbrev pub mantissa_of : ℕ → ℤ
mantissa_of word = signed_number 24 (word / 2 ^ 8)

-- bits 4 and 5 say how many bits of it stand behind its point
-- (AOSP: COMPLEX_RADIX_23p0, COMPLEX_RADIX_16p7, COMPLEX_RADIX_8p15, COMPLEX_RADIX_0p23)
abbrev pub radix_of : ℕ → ℕ
radix_of word = slice_index (0 ∷ 7 ∷ 15 ∷ 23 ∷ []) (word / 2 ^ 4 % 2 ^ 2)

-- bits 0 to 3 are the unit (AOSP: COMPLEX_UNIT_MASK)
abbrev pub unit_of : ℕ → ℕ
unit_of word = word % 2 ^ 4

-- the units of a dimension, from 0 on (AOSP: COMPLEX_UNIT_PX to COMPLEX_UNIT_MM)
abbrev pub dimension_units : List (List ℕ)
dimension_units = codes "px" ∷ codes "dp" ∷ codes "sp" ∷ codes "pt" ∷ codes "in" ∷ codes "mm" ∷ []

-- the units of a fraction, from 0 on (AOSP: COMPLEX_UNIT_FRACTION, COMPLEX_UNIT_FRACTION_PARENT)
abbrev pub fraction_units : List (List ℕ)
fraction_units = codes "%" ∷ codes "%p" ∷ []

-- a unit by its name, or by its number where it has none
abbrev pub unit_text : List (List ℕ) → ℕ → List ℕ
unit_text units unit = unwrap_or (slice_get units unit) (codes "unit " ++ decimal unit)

-- the number over a power of two, and the unit
unfoldable pub complex_text : List (List ℕ) → ℕ → List ℕ
complex_text units word =
    signed_decimal (mantissa_of word) ++ codes "/2^" ++ decimal (radix_of word) ++ codes " " ++ unit_text units (unit_of word)
