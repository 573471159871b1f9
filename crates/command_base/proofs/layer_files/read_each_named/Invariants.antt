use Rattle.command_base.proofs.NamedLeft.{NamedLeft}
use Rattle.command_base.proofs.layer_files.read_each_named.Given as goal

-- the layers so far, and those that are left, are all layers
abbrev pub invariant-loop-layer : goal.invariant-loop-layer
invariant-loop-layer g l = NamedLeft (g.I.Inputs.places l.inputs) l.files.items l.layer-index l.layers
