use Rattle.std.proofs.Common.{◌≡◌, ◌-◌, ◌≤◌, ◌∷◌, map, length, option_map}
use Rattle.serde_json.specs.Data.{Members, object}
use Rattle.serde_json.specs.Find.{get_member}
use Rattle.json_tokens.specs.json_input.Shape.{are_among}
use Rattle.json_tokens.specs.ShortList.{HasRoomIf, short_list, short_list_seen}
use Rattle.json_tokens.specs.Fields.{field, slots_seen}
use Rattle.json_tokens.proofs.Walked.{WalkedMembers}
use Rattle.json_tokens.proofs.tokens.Tokens.fields_and_list.Given as goal

abbrev pub invariant-members : goal.invariant-members
invariant-members l =
    (found : Members) × WalkedMembers (l.depth - 1) l.initial.self found l.self
    × (slots_seen l.slots ≡ map (field (object found)) (map (λ name. name.now) l.names)) × (l.only ≡ are_among (l.list_name ∷ map (λ name. name.now) l.names) found)
    × (option_map (short_list_seen l.kinds) l.list ≡ option_map (short_list (length l.kinds)) (get_member l.list_name found)) × (length l.slots ≡ length l.names)
    × (length l.self ≤ length l.initial.self) × HasRoomIf (length l.kinds) l.list

abbrev pub decreases-members : goal.decreases-members
decreases-members l = length l.self
