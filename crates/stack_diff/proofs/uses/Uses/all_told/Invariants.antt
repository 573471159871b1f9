use Rattle.std.proofs.Common.{◌≡◌, ◌++◌, map, drop}
use Rattle.stack_diff.specs.LayersSeen.{layers_of}
use Rattle.stack_diff.specs.Raising.{all_told}
use Rattle.stack_diff.proofs.uses.Uses.all_told.Given as goal

abbrev pub invariant-loop-layer : goal.invariant-loop-layer
invariant-loop-layer l = map (λ cells. cells.items) l.uses.items ++ all_told (layers_of (drop l.layer-index l.layers)) l.told ≡ all_told (layers_of l.layers) l.told
