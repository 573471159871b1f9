use Rattle.std.proofs.Common.{◌≢◌, ◌⊎◌, ℕ, [], drop}
use Rattle.std.specs.Prelude.{IsTrue}
use Rattle.std.specs.BTreeSet.{contains}
use Rattle.std.specs.Ordering.{nat_cmp}
use Rattle.stack_diff.specs.RowPlaces.{row_places_from}
use Rattle.stack_diff.specs.LayersSeen.{layers_of}
use Rattle.stack_diff.proofs.looked_up.looked_up_ids.Given as goal

-- an id for which rows stand is put already, or rows stand for it in a layer that is left
abbrev pub invariant-loop-layer : goal.invariant-loop-layer
invariant-loop-layer l =
    (id : ℕ) → row_places_from 0 (layers_of l.layers) id ≢ []
    → IsTrue (contains nat_cmp l.numbers id) ⊎ (row_places_from l.layer-index (layers_of (drop l.layer-index l.layers)) id ≢ [])
