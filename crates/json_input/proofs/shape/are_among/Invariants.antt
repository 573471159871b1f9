use Rattle.std.proofs.Common.{◌≡◌, map}
use Rattle.serde_json.specs.View.{members_view}
use Rattle.json_input.specs.Shape.{are_among}
use Rattle.json_input.proofs.shape.are_among.Given as goal

-- the answer is that for the members that are left
abbrev pub invariant-loop-name : goal.invariant-loop-name
invariant-loop-name l = are_among (map (λ name. name.now) l.names) (members_view l.name-iterator) ≡ are_among (map (λ name. name.now) l.names) (members_view l.members.entries)
