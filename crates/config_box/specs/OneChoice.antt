-- Boxes that have choices at a coordinate, and the one box that is joined of them.
use Rattle.std.specs.Prelude.{◌≡◌, ◌≢◌, ◌≤◌, ℕ, List, length}
use Rattle.std.specs.List.{All}
use Rattle.config_box.specs.config_record.declared.coord.Coord.{Coord}
use Rattle.config_box.specs.box_answers.NumberSet.{SetOf}
use Rattle.config_box.specs.box_answers.Members.{set_at, IsBox, most_values}
use Rattle.config_box.specs.Counts.{box_count}
use Rattle.config_box.specs.Least.{HasOneSet, IsChoice, value_count}

-- choices at this coordinate that are not too many together, the same sets at each other, and no device in common
pub record AreChoices (c : Coord) (boxes : List (List SetOf)) : Type 0 where
  pub each : All IsBox boxes
  pub alike : (k : Coord) → k ≢ c → HasOneSet k boxes
  pub choices : All (λ b. IsChoice (set_at b c)) boxes
  pub few : value_count c boxes ≤ most_values
  pub once : (d : List ℕ) → box_count d boxes ≤ 1

-- what is joined of them: one box, of no more values, with the same sets at each other coordinate
pub record IsOneChoice (c : Coord) (old new : List (List SetOf)) : Type 0 where
  pub each : All IsBox new
  pub alike : (k : Coord) → k ≢ c → (set : SetOf) → All (λ b. set_at b k ≡ set) old → All (λ b. set_at b k ≡ set) new
  pub choices : All (λ b. IsChoice (set_at b c)) new
  pub count : value_count c new ≤ value_count c old
  pub one : length new ≤ 1
