use Rattle.std.proofs.Common.{◌≡◌, ◌-◌, map, length}
use Rattle.serde_json.specs.Data.{Members, object}
use Rattle.json_input.specs.Shape.{are_among}
use Rattle.json_tokens.proofs.Walked.{WalkedMembers}
use Rattle.box_answers.specs.config_record.Coord.{all_coords, name_of}
use Rattle.config_box.specs.Kept.{slot_at}
use Rattle.config_box.specs.BoxSeen.{slot_seen}
use Rattle.config_box.proofs.written.slots_in.Given as goal

abbrev pub invariant-members : goal.invariant-members
invariant-members l = record {
  found : Members;
  walked : WalkedMembers (l.depth - 1) l.initial.tokens found l.tokens;
  seen : map slot_seen l.slots.items ≡ map (slot_at (object found)) all_coords;
  coords : map (λ slot. slot.coord) l.slots.items ≡ all_coords;
  only : l.only ≡ are_among (map name_of all_coords) found;
}

abbrev pub decreases-members : goal.decreases-members
decreases-members l = length l.tokens
