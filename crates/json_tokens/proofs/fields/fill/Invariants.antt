use Rattle.std.proofs.Common.{◌≡◌, ◌||◌, map, drop}
use Rattle.json_tokens.specs.json_input.Shape.{is_among}
use Rattle.json_tokens.proofs.Slots.{FillsAllBut}
use Rattle.json_tokens.proofs.fields.fill.Given as goal

abbrev pub invariant-names : goal.invariant-names
invariant-names l =
    ((l.known || is_among (drop l.place (map (λ name. name.now) l.names)) l.name) ≡ is_among (map (λ name. name.now) l.names) l.name)
    × FillsAllBut (map (λ name. name.now) l.names) l.name l.kind l.initial.slots l.slots l.place
