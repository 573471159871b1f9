use Rattle.std.proofs.Common.{◌≡◌, map, drop}
use Rattle.json_input.specs.Shape.{is_among}
use Rattle.json_input.proofs.shape.is_among.Given as goal

-- the answer is that for the names that are left
abbrev pub invariant-loop-known : goal.invariant-loop-known
invariant-loop-known l = is_among (map (λ name. name.now) (drop l.known-index l.names)) l.name ≡ is_among (map (λ name. name.now) l.names) l.name
