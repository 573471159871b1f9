use Rattle.std.proofs.Common.{◌≡◌, ◌+◌, ◌++◌, ℕ, length}
use Rattle.reference_resolver.specs.overlay_map.Table.{rows_of}
use Rattle.stack_diff.specs.RowPlaces.{places_with_id}
use Rattle.stack_diff.specs.PlacesSeen.{places_at, ListsIds}
use Rattle.stack_diff.proofs.layer_rows.LayerRows.of.Given as goal

abbrev pub invariant-loop-row : goal.invariant-loop-row
invariant-loop-row l = record {
  count : l.count + length l.row-iterator ≡ length (rows_of l.table);
  places : (id : ℕ) → places_at l.places id ++ places_with_id id l.count l.row-iterator ≡ places_with_id id 0 (rows_of l.table);
  listed : ListsIds l.places;
}
