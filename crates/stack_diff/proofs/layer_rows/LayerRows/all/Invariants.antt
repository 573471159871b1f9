use Rattle.std.proofs.Common.{◌≡◌, take}
use Rattle.stack_diff.specs.LayersSeen.{layers_of}
use Rattle.stack_diff.proofs.layer_rows.LayerRows.all.Given as goal

abbrev pub invariant-loop-index : goal.invariant-loop-index
invariant-loop-index l = layers_of l.layers.items ≡ take l.index l.stack
