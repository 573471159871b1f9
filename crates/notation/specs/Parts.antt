-- The parts of a line. They stand between dashes; but the dash before the region of a locale, as in `en-rUS`, is in a part.
use Rattle.std.specs.Prelude.{ℕ, ◌==◌, ◌&&◌, ◌||◌, not, Bool, false, List, [], ◌∷◌, ◌++◌, if◌then◌else◌}
use Rattle.config_record.specs.locales.Locale.{dash, is_capital_letter, is_digit}

-- 'r', before a region
abbrev pub region_sign : ℕ
region_sign = 114

-- No other part begins with `r` and a capital letter or a digit.
abbrev pub begins_region : List ℕ → Bool
begins_region (first ∷ second ∷ others) = first == region_sign && (is_capital_letter second || is_digit second)
begins_region others = false

-- a part ends before this byte, which others follow
abbrev pub ends_part : ℕ → List ℕ → Bool
ends_part byte others = byte == dash && not (begins_region others)

-- these bytes before the first of the parts
abbrev pub begun_by : List ℕ → List (List ℕ) → List (List ℕ)
begun_by front [] = front ∷ []
begun_by front (part ∷ parts) = (front ++ part) ∷ parts

-- An empty line is one empty part.
unfoldable pub parts_of : List ℕ → List (List ℕ)
parts_of [] = [] ∷ []
parts_of (byte ∷ others) = if ends_part byte others then [] ∷ parts_of others else begun_by (byte ∷ []) (parts_of others)
