use Rattle.std.proofs.Common.{map, drop}
use Rattle.overlay_map.specs.Layer.{base_tables}
use Rattle.overlay_map.proofs.BaseSteps.{ListsBut}
use Rattle.overlay_map.proofs.stack.Stack.base_tables.Given as goal

abbrev pub invariant-loop-layer : goal.invariant-loop-layer
invariant-loop-layer l = ListsBut (map (λ table. table.now) l.tables.items) (drop l.layer-index l.layer-items) (base_tables l.layer-items)
