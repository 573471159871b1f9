use Rattle.std.proofs.Common.{◌≡◌, map, take}
use Rattle.json_input.proofs.EachSteps.{EachAllBut}
use Rattle.config_box.specs.BoxSeen.{pair_seen, slot_seen}
use Rattle.config_box.proofs.read.written_of_each.Given as goal

abbrev pub invariant-loop-slot : goal.invariant-loop-slot
invariant-loop-slot l = record {
  read : EachAllBut slot_seen (map pair_seen l.pairs.items) l.slot-index l.slots;
  coords : map (λ pair. pair.0) l.pairs.items ≡ map (λ slot. slot.coord) (take l.slot-index l.slots);
}
