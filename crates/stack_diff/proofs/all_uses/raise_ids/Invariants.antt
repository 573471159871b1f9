use Rattle.std.proofs.Common.{map, drop}
use Rattle.stack_diff.specs.Raising.{cells_of, KeepsReach, ids_more}
use Rattle.stack_diff.proofs.LimitSteps.{Counting}
use Rattle.stack_diff.proofs.all_uses.raise_ids.Given as goal

abbrev pub invariant-loop-id : goal.invariant-loop-id
invariant-loop-id l = record {
  keeps : KeepsReach (cells_of l.fn.uses) (ids_more l.stack l.members (map (λ id. id.0) l.ids)) (cells_of l.uses) (ids_more l.stack l.members (map (λ id. id.0) (drop l.id-index l.ids)));
  counting : Counting l.stack l.members (cells_of l.fn.uses) (map (λ id. id.0) l.ids) (map (λ id. id.0) (drop l.id-index l.ids)) l.fn.left l.left;
}
