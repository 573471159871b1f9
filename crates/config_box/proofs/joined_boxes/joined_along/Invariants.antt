use Rattle.std.proofs.Common.{◌≡◌, ◌≤◌, ◌<◌, length}
use Rattle.config_box.specs.config_record.declared.coord.Coord.{Coord}
use Rattle.config_box.specs.config_record.Coord.{place_of}
use Rattle.config_box.specs.Kinds.{KeepKinds}
use Rattle.config_box.specs.Counts.{HaveSameCounts}
use Rattle.config_box.specs.Least.{DifferAt, DifferByRanges, DifferByChoices}
use Rattle.config_box.specs.Ranges.{AreJoinedRanges}
use Rattle.config_box.specs.OneChoice.{IsOneChoice}
use Rattle.config_box.proofs.joined_boxes.joined_along.Given as goal

-- boxes that differ at one coordinate alone stay as they are until it is looked at, and are joined then
abbrev pub invariant-loop-at : goal.invariant-loop-at
invariant-loop-at l = record {
  counts : HaveSameCounts l.fn.boxes.items l.joined.items;
  no_more : length l.joined.items ≤ length l.fn.boxes.items;
  some : 0 < length l.fn.boxes.items → 0 < length l.joined.items;
  kinds : KeepKinds l.fn.boxes.items l.joined.items;
  before : (c : Coord) → DifferAt c l.fn.boxes.items → l.at-index ≤ place_of c → l.joined.items ≡ l.fn.boxes.items;
  ranges : (c : Coord) → DifferByRanges c l.fn.boxes.items → place_of c < l.at-index → AreJoinedRanges c l.fn.boxes.items l.joined.items;
  choices : (c : Coord) → DifferByChoices c l.fn.boxes.items → place_of c < l.at-index → IsOneChoice c l.fn.boxes.items l.joined.items;
}
