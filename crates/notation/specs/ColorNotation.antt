-- Colours by the digits that were written.
use Rattle.std.specs.Prelude.{ℕ, ◌&&◌, Bool, List, [], ◌∷◌, ◌++◌, codes, take, drop, Option, Some, None, bytes_eq, if◌then◌else◌}

-- the first digit of each two
abbrev pub first_digits : List ℕ → List ℕ
first_digits (first ∷ second ∷ digits) = first ∷ first_digits digits
first_digits _ = []

abbrev pub doubled : List ℕ → List ℕ
doubled [] = []
doubled (digit ∷ digits) = digit ∷ digit ∷ doubled digits

-- each two digits are one, written twice
abbrev pub is_doubled : List ℕ → Bool
is_doubled digits = bytes_eq (doubled (first_digits digits)) digits

-- the first two digits say that nothing shines through
abbrev pub is_opaque : List ℕ → Bool
is_opaque digits = bytes_eq (take 2 digits) (codes "ff")

abbrev pub hash_text : List ℕ → List ℕ
hash_text digits = codes "#" ++ digits

-- `#aarrggbb`
abbrev pub argb8_notation : List ℕ → Option (List ℕ)
argb8_notation digits = Some (hash_text digits)

-- `#rrggbb`
abbrev pub rgb8_notation : List ℕ → Option (List ℕ)
rgb8_notation digits = if is_opaque digits then Some (hash_text (drop 2 digits)) else None

-- `#argb`
abbrev pub argb4_notation : List ℕ → Option (List ℕ)
argb4_notation digits = if is_doubled digits then Some (hash_text (first_digits digits)) else None

-- `#rgb`
abbrev pub rgb4_notation : List ℕ → Option (List ℕ)
rgb4_notation digits = if is_doubled digits && is_opaque digits then Some (hash_text (first_digits (drop 2 digits))) else None
