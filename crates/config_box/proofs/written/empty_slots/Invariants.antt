use Rattle.std.proofs.Common.{◌≡◌, map, take}
use Rattle.serde_json.specs.Data.{object, no_members}
use Rattle.config_box.specs.Kept.{slot_at}
use Rattle.config_box.specs.BoxSeen.{slot_seen}
use Rattle.config_box.proofs.written.empty_slots.Given as goal

abbrev pub invariant-loop-coord : goal.invariant-loop-coord
invariant-loop-coord l = record {
  seen : map slot_seen l.slots.items ≡ map (slot_at (object no_members)) (take l.coord-index l.coords);
  coords : map (λ slot. slot.coord) l.slots.items ≡ take l.coord-index l.coords;
}
