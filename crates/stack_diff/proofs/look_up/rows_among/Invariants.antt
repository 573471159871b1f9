use Rattle.std.proofs.Common.{◌≡◌, ◌++◌, drop}
use Rattle.stack_diff.specs.RowPlaces.{row_places_from}
use Rattle.stack_diff.specs.LayersSeen.{layers_of, stack_among}
use Rattle.stack_diff.proofs.look_up.rows_among.Given as goal

abbrev pub invariant-loop-index : goal.invariant-loop-index
invariant-loop-index l =
    l.rows.items ++ row_places_from l.index (stack_among l.among (layers_of (drop l.index l.layers))) l.id.0
    ≡ row_places_from 0 (stack_among l.among (layers_of l.layers)) l.id.0
