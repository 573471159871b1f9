use Rattle.std.proofs.Common.{◌≡◌, ◌++◌, drop}
use Rattle.stack_diff.specs.RowPlaces.{row_places_at}
use Rattle.stack_diff.proofs.look_up.push_rows.Given as goal

abbrev pub invariant-loop-place : goal.invariant-loop-place
invariant-loop-place l = l.rows.items ++ row_places_at l.layer (drop l.place-index l.places) ≡ l.fn.rows.items ++ row_places_at l.layer l.places
