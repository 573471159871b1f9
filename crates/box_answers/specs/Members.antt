-- Boxes of devices: 25 sets of numbers, one for each coordinate, in their order. A device is the list of its numbers.
use Rattle.std.specs.Prelude.{◌≡◌, ℕ, ◌≤◌, List, map, length, slice_index_or}
use Rattle.config_precedence.specs.config_record.declared.coord.Coord as coord
use Rattle.config_precedence.specs.config_record.declared.coord.Coord.TheVariants as coords
use Rattle.config_precedence.specs.config_record.Coord.{place_of}
use Rattle.config_precedence.specs.config_record.ComparedNumber.{device_number}
use Rattle.config_precedence.specs.config_record.Device.{CanHave}
use Rattle.box_answers.specs.declared.number_set.NumberSet.{NumberSet}
use Rattle.box_answers.specs.NumberSet.{SetOf, RangeOf, LocalesOf, set_of, named_numbers, IsIn, IsProper, IsLeastIn}

abbrev pub sets_of : List NumberSet → List SetOf
sets_of sets = map set_of sets

-- the set of a coordinate
abbrev pub set_at : List SetOf → coord.Coord → SetOf
set_at sets c = slice_index_or sets (place_of c) (RangeOf 0 0)

-- a device is a member where each of its numbers is one of the set at its coordinate
abbrev pub IsMember : List SetOf → List ℕ → Type 0
IsMember sets d = (c : coord.Coord) → IsIn (set_at sets c) (device_number d c)

abbrev pub SomeMember : List SetOf → Type 0
SomeMember sets = (d : List ℕ) × IsMember sets d

-- locales stand at the locale alone, and they are always a choice
abbrev pub IsOfKind : coord.Coord → SetOf → Type 0
IsOfKind coords.Locale (LocalesOf numbers) = Unit {0}
IsOfKind coords.Locale set = ⊥
IsOfKind c (LocalesOf numbers) = ⊥
IsOfKind c set = Unit {0}

-- the most values of a choice
abbrev pub most_values : ℕ
most_values = 512

-- what a box has at a coordinate: numbers that a device can have there, one at least
pub record IsSetAt (c : coord.Coord) (set : SetOf) : Type 0 where
  pub proper : IsProper set
  pub kind : IsOfKind c set
  pub few : length (named_numbers set) ≤ most_values
  pub can : (n : ℕ) → IsIn set n → CanHave c n

-- a set for each coordinate
pub record IsBox (sets : List SetOf) : Type 0 where
  pub count : length sets ≡ 25
  pub each : (c : coord.Coord) → IsSetAt c (set_at sets c)

-- the member that has the least number of each set
abbrev pub IsCorner : List SetOf → List ℕ → Type 0
IsCorner sets d = (c : coord.Coord) → IsLeastIn (set_at sets c) (device_number d c)
