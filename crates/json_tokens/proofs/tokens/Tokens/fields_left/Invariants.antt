use Rattle.std.proofs.Common.{◌≡◌, ◌≤◌, map, length}
use Rattle.serde_json.specs.Data.{Members, object}
use Rattle.json_tokens.specs.json_input.Shape.{are_among}
use Rattle.json_tokens.specs.Fields.{field, slots_seen}
use Rattle.json_tokens.proofs.Walked.{WalkedMembers}
use Rattle.json_tokens.proofs.tokens.Tokens.fields_left.Given as goal

abbrev pub invariant-members : goal.invariant-members
invariant-members l =
    (found : Members) × WalkedMembers l.depth l.initial.self found l.self
    × (slots_seen l.slots ≡ map (field (object found)) (map (λ name. name.now) l.names)) × (l.only ≡ are_among (map (λ name. name.now) l.names) found)
    × (length l.slots ≡ length l.names)
    × (length l.self ≤ length l.initial.self)

abbrev pub decreases-members : goal.decreases-members
decreases-members l = length l.self
