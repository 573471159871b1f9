-- Boxes that have at each coordinate a set of the kind that a whole box has there.
use Rattle.std.specs.Prelude.{List}
use Rattle.std.specs.List.{All}
use Rattle.config_box.specs.config_record.declared.coord.Coord.{Coord}
use Rattle.config_box.specs.box_answers.NumberSet.{SetOf}
use Rattle.config_box.specs.box_answers.Members.{set_at, IsBox}
use Rattle.config_box.specs.Marks.{AreMarkedAlike}

-- a box, with a range where the whole box has one, and a choice where it has a choice
pub record IsOfKinds (sets part : List SetOf) : Type 0 where
  pub is_box : IsBox part
  pub marks : (c : Coord) → AreMarkedAlike (set_at sets c) (set_at part c)

-- where all old boxes are of the kinds of a whole box, all new ones are
abbrev pub KeepKinds : List (List SetOf) → List (List SetOf) → Type 0
KeepKinds old new = (sets : List SetOf) → All (IsOfKinds sets) old → All (IsOfKinds sets) new
