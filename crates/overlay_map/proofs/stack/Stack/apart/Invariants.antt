use Rattle.std.proofs.Common.{◌≡◌, ◌++◌, All, map}
use Rattle.overlay_map.specs.Layer.{by_itself, HasFewRows}
use Rattle.overlay_map.proofs.stack.Stack.apart.Given as goal

-- those so far, and those of the layers that are left, are those of all layers
abbrev pub invariant-loop-layer : goal.invariant-loop-layer
invariant-loop-layer l = record {
  can : goal.iterator-loop-layer.can_next l.layer-iterator;
  ends : goal.iterator-loop-layer.is_finite l.layer-iterator;
  apart : l.stacks.items ++ map by_itself l.layer-iterator.rest.items ≡ map by_itself l.fn.self;
  few_rows : All HasFewRows l.layer-iterator.rest.items;
}
