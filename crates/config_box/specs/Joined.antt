-- Two boxes that make one box together.
use Rattle.std.specs.Prelude.{◌≡◌, ◌≢◌, ◌≤◌, ◌+◌, ◌↔◌, ◌⊎◌, ℕ, List, length, Option, Some, None}
use Rattle.box_answers.specs.config_record.declared.coord.Coord.{Coord}
use Rattle.box_answers.specs.NumberSet.{SetOf, RangeOf, NumbersOf, LocalesOf, IsIn, IsProper, named_numbers}
use Rattle.box_answers.specs.Members.{set_at, IsMember, IsBox, most_values}
use Rattle.config_box.specs.Marks.{AreMarkedAlike}

-- ---- sets

-- no number is in both
abbrev pub AreApart : SetOf → SetOf → Type 0
AreApart set other = (n : ℕ) → IsIn set n → IsIn other n → ⊥

-- ranges that follow one another, in either order; choices without a common value that are not too many together
abbrev pub MakeOneSet : SetOf → SetOf → Type 0
MakeOneSet (RangeOf low high) (RangeOf from to) = (high + 1 ≡ from) ⊎ (to + 1 ≡ low)
MakeOneSet (NumbersOf numbers) (NumbersOf others) = AreApart (NumbersOf numbers) (NumbersOf others) × (length numbers + length others ≤ most_values)
MakeOneSet (LocalesOf locales) (LocalesOf others) = AreApart (LocalesOf locales) (LocalesOf others) × (length locales + length others ≤ most_values)
MakeOneSet set other = ⊥

-- the numbers of both
pub record IsJoinedSet (set other joined : SetOf) : Type 0 where
  pub numbers : (n : ℕ) → IsIn joined n ↔ (IsIn set n ⊎ IsIn other n)
  pub mark : AreMarkedAlike set joined
  pub proper : IsProper joined
  pub few : length (named_numbers joined) ≤ most_values

-- the one set that two make; there is none where they make none
abbrev pub IsOneSet : SetOf → SetOf → Option SetOf → Type 0
IsOneSet set other (Some joined) = MakeOneSet set other × IsJoinedSet set other joined
IsOneSet set other None = MakeOneSet set other → ⊥

-- ---- boxes

-- at this coordinate their sets make one set, and at each other they have the same
pub record CanJoinAt (a b : List SetOf) (c : Coord) : Type 0 where
  pub here : MakeOneSet (set_at a c) (set_at b c)
  pub others : (k : Coord) → k ≢ c → set_at a k ≡ set_at b k

-- at no coordinate they can be joined: they differ at none, or at two, or their sets at one make no set
abbrev pub CannotJoin : List SetOf → List SetOf → Type 0
CannotJoin a b = (c : Coord) → CanJoinAt a b c → ⊥

-- the box that has exactly the members of both, which have none in common
pub record IsJoined (a b joined : List SetOf) : Type 0 where
  pub is_box : IsBox joined
  pub members : (d : List ℕ) → IsMember joined d ↔ (IsMember a d ⊎ IsMember b d)
  pub apart : (d : List ℕ) → IsMember a d → IsMember b d → ⊥

-- its sets: both together at the coordinate where they can be joined, at each other that of either
pub record IsJoinedAt (a b joined : List SetOf) (c : Coord) : Type 0 where
  pub can : CanJoinAt a b c
  pub here : IsJoinedSet (set_at a c) (set_at b c) (set_at joined c)
  pub others : (k : Coord) → k ≢ c → set_at joined k ≡ set_at a k

-- at one coordinate
abbrev pub HasJoinedSets : List SetOf → List SetOf → List SetOf → Type 0
HasJoinedSets a b joined = (c : Coord) × IsJoinedAt a b joined c
