-- Where boxes differ at one coordinate alone, what is joined is as little as can be.
use Rattle.std.specs.Prelude.{◌≡◌, ◌≢◌, ◌≤◌, ◌⊎◌, ℕ, List, length}
use Rattle.std.specs.List.{All, AllPairs, sum_by}
use Rattle.config_box.specs.config_record.declared.coord.Coord.{Coord}
use Rattle.config_box.specs.box_answers.NumberSet.{SetOf, RangeOf, NumbersOf, LocalesOf, named_numbers}
use Rattle.config_box.specs.box_answers.Members.{set_at, IsBox, most_values}
use Rattle.config_box.specs.Joined.{CannotJoin}
use Rattle.config_box.specs.Devices.{HasNone, HasOnce}

-- all have the same set at a coordinate
abbrev pub HasOneSet : Coord → List (List SetOf) → Type 0
HasOneSet k boxes = (set : SetOf) × All (λ b. set_at b k ≡ set) boxes

-- boxes that have the same sets at each coordinate but this one, and no device in common
pub record DifferAt (c : Coord) (boxes : List (List SetOf)) : Type 0 where
  pub each : All IsBox boxes
  pub alike : (k : Coord) → k ≢ c → HasOneSet k boxes
  pub apart : (d : List ℕ) → HasNone d boxes ⊎ HasOnce d boxes

-- ---- ranges

-- a range, its low end first
abbrev pub IsRange : SetOf → Type 0
IsRange (RangeOf low high) = low ≤ high
IsRange (NumbersOf numbers) = ⊥
IsRange (LocalesOf locales) = ⊥

pub record DifferByRanges (c : Coord) (boxes : List (List SetOf)) : Type 0 where
  pub differ : DifferAt c boxes
  pub ranges : All (λ b. IsRange (set_at b c)) boxes

-- no two of the boxes make one
abbrev pub NoTwoJoin : List (List SetOf) → Type 0
NoTwoJoin boxes = AllPairs CannotJoin boxes

-- ---- choices

abbrev pub IsChoice : SetOf → Type 0
IsChoice (RangeOf low high) = ⊥
IsChoice (NumbersOf numbers) = Unit {0}
IsChoice (LocalesOf locales) = Unit {0}

-- how many values they have there together
abbrev pub value_count : Coord → List (List SetOf) → ℕ
value_count c boxes = sum_by (λ b. length (named_numbers (set_at b c))) boxes

-- by choices that are no more together than one can have
pub record DifferByChoices (c : Coord) (boxes : List (List SetOf)) : Type 0 where
  pub differ : DifferAt c boxes
  pub choices : All (λ b. IsChoice (set_at b c)) boxes
  pub few : value_count c boxes ≤ most_values

-- ---- both

-- where old boxes differ by ranges of one coordinate alone, no two of the new ones make one; where by choices, there is one
pub record IsLeast (old new : List (List SetOf)) : Type 0 where
  pub ranges : (c : Coord) → DifferByRanges c old → NoTwoJoin new
  pub choices : (c : Coord) → DifferByChoices c old → length new ≤ 1
