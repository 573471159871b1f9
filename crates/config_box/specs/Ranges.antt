-- Boxes that have ranges at a coordinate, and how these lie.
use Rattle.std.specs.Prelude.{◌≡◌, ◌≢◌, ◌+◌, ◌<◌, ℕ, List, slice_index}
use Rattle.std.specs.List.{All, AllPairs}
use Rattle.config_box.specs.config_record.declared.coord.Coord.{Coord}
use Rattle.config_box.specs.box_answers.NumberSet.{SetOf, named_numbers}
use Rattle.config_box.specs.box_answers.Members.{set_at}
use Rattle.config_box.specs.Least.{HasOneSet, IsRange}

-- the ends of a range
abbrev pub low_at : Coord → List SetOf → ℕ
low_at c b = slice_index (named_numbers (set_at b c)) 0

abbrev pub high_at : Coord → List SetOf → ℕ
high_at c b = slice_index (named_numbers (set_at b c)) 1

-- ranges at this coordinate, and the same sets at each other
pub record AreRanges (c : Coord) (boxes : List (List SetOf)) : Type 0 where
  pub alike : (k : Coord) → k ≢ c → HasOneSet k boxes
  pub ranges : All (λ b. IsRange (set_at b c)) boxes

-- each range lies behind those before it
abbrev pub AreInOrder : Coord → List (List SetOf) → Type 0
AreInOrder c boxes = AllPairs (λ a b. high_at c a < low_at c b) boxes

-- and not right behind
abbrev pub HaveGaps : Coord → List (List SetOf) → Type 0
HaveGaps c boxes = AllPairs (λ a b. high_at c a + 1 < low_at c b) boxes

-- all end below a number
abbrev pub EndBelow : Coord → ℕ → List (List SetOf) → Type 0
EndBelow c n boxes = All (λ b. high_at c b < n) boxes

-- What is joined of boxes: ranges with gaps between them, that end where those ended, and the same sets at each other
-- coordinate.
pub record AreJoinedRanges (c : Coord) (old new : List (List SetOf)) : Type 0 where
  pub alike : (k : Coord) → k ≢ c → (set : SetOf) → All (λ b. set_at b k ≡ set) old → All (λ b. set_at b k ≡ set) new
  pub ranges : All (λ b. IsRange (set_at b c)) new
  pub gaps : HaveGaps c new
  pub below : (n : ℕ) → EndBelow c n old → EndBelow c n new
