-- Decimals of numbers over a power of two.
use Rattle.std.specs.Prelude.{ℕ, ◌+◌, ◌-◌, ◌*◌, ◌/◌, ◌%◌, ◌^◌, ◌<◌, ◌≤◌, ◌==◌, nat_lt, Bool, List, [], ◌++◌, codes, drop, find, unwrap_or, if◌then◌else◌}
use Rattle.std.specs.List.{range_with_len}
use Rattle.std.specs.Fmt.{decimal}
use Rattle.notation.specs.declared.exact.Exact.{Exact}

-- An exact number is `number / 2^radix`. Its last place is `last / 2^radix`: no other number of its kind is as near as that.

-- The nearest decimal with so many digits behind the point, in units of its last digit. Of two that are as near it is the greater.
abbrev pub nearest : Exact → ℕ → ℕ
nearest exact places = (2 * exact.number * 10 ^ places + 2 ^ exact.radix) / 2 ^ (exact.radix + 1)

abbrev pub difference : ℕ → ℕ → ℕ
difference a b = (a - b) + (b - a)

-- how far that is from the number, times `10^places * 2^radix`
abbrev pub distance : Exact → ℕ → ℕ
distance exact places = difference (nearest exact places * 2 ^ exact.radix) (exact.number * 10 ^ places)

-- nearer than half of the last place
unfoldable pub is_near : Exact → ℕ → Bool
is_near exact places = nat_lt (2 * distance exact places) (exact.last * 10 ^ places)

abbrev pub most_places : ℕ
most_places = 18

-- the fewest that are near
unfoldable pub places_of : Exact → ℕ
places_of exact = unwrap_or (find (is_near exact) (range_with_len 0 most_places)) most_places

-- so many digits: those of the number with a 1 before them, without it
abbrev pub digits_behind : ℕ → ℕ → List ℕ
digits_behind places number = drop 1 (decimal (10 ^ places + number))

abbrev pub behind_point : ℕ → ℕ → List ℕ
behind_point places number = if places == 0 then [] else codes "." ++ digits_behind places number

-- a number of units, with its point before the last digits
abbrev pub with_point : ℕ → ℕ → List ℕ
with_point places units = decimal (units / 10 ^ places) ++ behind_point places (units % 10 ^ places)

abbrev pub decimal_with : Exact → ℕ → List ℕ
decimal_with exact places = with_point places (nearest exact places)

unfoldable pub decimal_text : Exact → List ℕ
decimal_text exact = decimal_with exact (places_of exact)

-- what has a decimal here; contracts within the crate alone speak of this
pub record IsSmall (exact : Exact) : Type 0 where
  pub number : exact.number < 2 ^ 60
  pub last : exact.last < 2 ^ 60
  pub radix : exact.radix ≤ 59
