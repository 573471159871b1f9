use Rattle.std.proofs.Common.{◌≡◌, ◌+◌, ◌*◌, ◌^◌, ◌≤◌, drop}
use Rattle.overlay_map.specs.SetAside.{set_aside_in_stack}
use Rattle.overlay_map.proofs.stack.Stack.set_aside.Given as goal

-- the count so far and that of the layers that are left are the whole
abbrev pub invariant-loop-layer : goal.invariant-loop-layer
invariant-loop-layer l = record {
  all : l.count + set_aside_in_stack (drop l.layer-index l.layer-items) ≡ set_aside_in_stack l.layer-items;
  few : l.count ≤ l.layer-index * 2 ^ 99;
}
