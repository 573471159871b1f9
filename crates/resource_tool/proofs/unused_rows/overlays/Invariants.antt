use Rattle.std.proofs.Common.{◌≡◌, map, take}
use Rattle.resource_tool.specs.UnusedOutput.{is_overlay}
use Rattle.resource_tool.proofs.unused_rows.overlays.Given as goal

-- of the layers so far it is known
abbrev pub invariant-loop-place : goal.invariant-loop-place
invariant-loop-place l = l.overlays.items ≡ map is_overlay (take l.place l.stack)
