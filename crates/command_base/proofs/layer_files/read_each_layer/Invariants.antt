use Rattle.command_base.proofs.LayersLeft.{LayersLeft}
use Rattle.command_base.proofs.layer_files.read_each_layer.Given as goal

-- the layers so far, and those that are left, are all layers
abbrev pub invariant-loop-layer : goal.invariant-loop-layer
invariant-loop-layer g l =
    (goal.iterator-loop-layer g).can_next l.layer-iterator
    × (goal.iterator-loop-layer g).is_finite l.layer-iterator
    × LayersLeft (g.I.Inputs.places l.inputs) l.files.items l.layer-iterator.rest.items l.fn.paths.items
