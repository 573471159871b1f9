use Rattle.std.proofs.Common.{◌≡◌, drop, map}
use Rattle.std.specs.List.{list_any}
use Rattle.resource_text.specs.GoalLookUps.{id_has}
use Rattle.resource_text.proofs.look_ups.some_has.Given as goal

-- those that are left decide
abbrev pub invariant-ids : goal.invariant-ids
invariant-ids l = list_any (id_has l.stack l.coord) (map (λ id. id.0) (drop l.id-index l.ids)) ≡ list_any (id_has l.stack l.coord) (map (λ id. id.0) l.ids)
