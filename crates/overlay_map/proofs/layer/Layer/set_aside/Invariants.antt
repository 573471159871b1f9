use Rattle.std.proofs.Common.{◌≡◌, ◌+◌, ◌*◌, ◌^◌, ◌≤◌, drop}
use Rattle.type_chunks.specs.Row.{set_aside_count}
use Rattle.type_chunks.specs.TypeRows.{rows_of_types}
use Rattle.overlay_map.specs.SetAside.{set_aside_in_layer}
use Rattle.overlay_map.proofs.layer.Layer.set_aside.Given as goal

-- the count so far and those of the types that are left are all
abbrev pub invariant-loop-checked : goal.invariant-loop-checked
invariant-loop-checked l = record {
  all : l.count + set_aside_count (rows_of_types (drop l.checked-index l.checked-items)) ≡ set_aside_in_layer l.self;
  few : l.count ≤ l.checked-index * 2 ^ 32;
}
