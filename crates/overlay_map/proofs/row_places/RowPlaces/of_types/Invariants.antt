use Rattle.std.proofs.Common.{◌≤◌, drop, length}
use Rattle.type_chunks.specs.TypeRows.{rows_of_types}
use Rattle.overlay_map.specs.Places.{AreLinked, ArePlacesOf}
use Rattle.overlay_map.proofs.row_places.RowPlaces.of_types.Given as goal

-- the places are those of the rows of the types from this number on
abbrev pub invariant-loop-number : goal.invariant-loop-number
invariant-loop-number l = record {
  within : l.number ≤ length l.types;
  linked : AreLinked l.places;
  places : ArePlacesOf (rows_of_types (drop l.number l.types)) l.types l.places;
}

abbrev pub decreases-loop-number : goal.decreases-loop-number
decreases-loop-number l = l.number
