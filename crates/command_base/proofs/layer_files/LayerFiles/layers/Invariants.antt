use Rattle.std.proofs.Common.{◌≡◌, map, take}
use Rattle.command_base.specs.StackBytesSeen.{layer_bytes}
use Rattle.command_base.specs.FilesSeen.{layer_held}
use Rattle.command_base.proofs.layer_files.LayerFiles.layers.Given as goal

-- the layers so far are lent
abbrev pub invariant-loop-layer : goal.invariant-loop-layer
invariant-loop-layer l = map layer_bytes l.layers.items ≡ map layer_held (take l.layer-index l.layer-items)
