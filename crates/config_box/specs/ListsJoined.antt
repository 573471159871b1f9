-- What is known of a list of boxes that is joined, step by step.
use Rattle.std.specs.Prelude.{◌≡◌, ◌+◌, ◌<◌, ◌≤◌, ◌++◌, ◌∷◌, [], List, length}
use Rattle.config_box.specs.config_record.declared.coord.Coord.{Coord}
use Rattle.config_box.specs.box_answers.NumberSet.{SetOf}
use Rattle.config_box.specs.Kinds.{KeepKinds}
use Rattle.config_box.specs.Counts.{HaveSameCounts}
use Rattle.config_box.specs.Least.{HasOneSet, DifferByRanges, DifferByChoices}
use Rattle.config_box.specs.Ranges.{low_at, AreRanges, AreInOrder, HaveGaps, EndBelow, AreJoinedRanges}
use Rattle.config_box.specs.OneChoice.{AreChoices, IsOneChoice}

-- a box more, that is joined with the last or put behind it
pub record IsAdded (old : List (List SetOf)) (next : List SetOf) (new : List (List SetOf)) : Type 0 where
  pub counts : HaveSameCounts (old ++ next ∷ []) new
  pub no_more : length new ≤ length old + 1
  pub some : 0 < length new
  pub kinds : KeepKinds (old ++ next ∷ []) new
  pub ranges : (c : Coord) → AreRanges c (old ++ next ∷ []) → HaveGaps c old → EndBelow c (low_at c next) old → AreJoinedRanges c (old ++ next ∷ []) new
  pub choices : (c : Coord) → AreChoices c (old ++ next ∷ []) → length old ≤ 1 → IsOneChoice c (old ++ next ∷ []) new

-- all of them, each joined with the one before where that is possible
pub record AreJoinedInOrder (old new : List (List SetOf)) : Type 0 where
  pub counts : HaveSameCounts old new
  pub no_more : length new ≤ length old
  pub some : 0 < length old → 0 < length new
  pub kinds : KeepKinds old new
  pub ranges : (c : Coord) → AreRanges c old → AreInOrder c old → AreJoinedRanges c old new
  pub choices : (c : Coord) → AreChoices c old → IsOneChoice c old new

-- along one coordinate
pub record AreJoinedAt (at : Coord) (old new : List (List SetOf)) : Type 0 where
  pub counts : HaveSameCounts old new
  pub no_more : length new ≤ length old
  pub some : 0 < length old → 0 < length new
  pub kinds : KeepKinds old new
  pub stay : HasOneSet at old → new ≡ old
  pub ranges : DifferByRanges at old → AreJoinedRanges at old new
  pub choices : DifferByChoices at old → IsOneChoice at old new
