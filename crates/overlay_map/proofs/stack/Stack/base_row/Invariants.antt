use Rattle.std.proofs.Common.{◌≡◌, drop}
use Rattle.overlay_map.specs.BaseRow.{first_base_row}
use Rattle.overlay_map.proofs.stack.Stack.base_row.Given as goal

-- the row that is sought is that of the layers that are left
abbrev pub invariant-loop-layer : goal.invariant-loop-layer
invariant-loop-layer l = first_base_row (drop l.layer-index l.layer-items) l.id.0 ≡ first_base_row l.layer-items l.id.0
