use Rattle.std.proofs.Common.{length, map}
use Rattle.command_base.specs.LeftOut.{left_at}
use Rattle.command_base.specs.ListWordSeen.{listed_of}
use Rattle.command_base.specs.StackBytesSeen.{layer_bytes}
use Rattle.command_base.proofs.LeftSteps.{ReadsFrom}
use Rattle.command_base.proofs.left_out.left_of_layers.Given as goal

-- the lines of the layers so far, and those of the layers that are left, are all lines
abbrev pub invariant-loop-place : goal.invariant-loop-place
invariant-loop-place l =
    ReadsFrom (left_at l.side (map listed_of l.listed) (map layer_bytes l.layers)) l.lines.items l.place (length (map listed_of l.listed))
