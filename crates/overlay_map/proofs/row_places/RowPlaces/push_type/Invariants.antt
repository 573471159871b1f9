use Rattle.std.proofs.Common.{◌≡◌, ℕ, ◌++◌, replicate}
use Rattle.type_chunks.specs.TypeRows.{rows_of_type}
use Rattle.overlay_map.specs.Places.{AreLinked, numbers_for}
use Rattle.overlay_map.proofs.PlaceSteps.{count_of}
use Rattle.overlay_map.proofs.row_places.RowPlaces.push_type.Given as goal

-- what is there already and what is still to come is all that is to be added
abbrev pub invariant-loop-row : goal.invariant-loop-row
invariant-loop-row l = record {
  can : (goal.iterator-loop-row).can_next l.row-iterator;
  ends : (goal.iterator-loop-row).is_finite l.row-iterator;
  linked : AreLinked l.fn.self → AreLinked l.self;
  added : AreLinked l.fn.self → (id : ℕ) → replicate (count_of id l.row-iterator) l.number ++ numbers_for l.self id ≡ replicate (count_of id (rows_of_type l.of)) l.number ++ numbers_for l.fn.self id;
}
