use Rattle.std.proofs.Common.{◌≡◌, ◌+◌, map, take}
use Rattle.std.specs.List.{AllZip}
use Rattle.stack_diff.specs.names.Pairs.{pair_of}
use Rattle.stack_diff.specs.Stacks.{stacks_of}
use Rattle.resource_tool.specs.Judged.{told_of, IsKept}
use Rattle.resource_tool.specs.Telling.{IsTold, HaveTrees}
use Rattle.resource_tool.proofs.judged.tell_all.Given as goal

abbrev pub invariant-loop-pair : goal.invariant-loop-pair
invariant-loop-pair g l = record {
  told : AllZip (λ pair one. IsTold l.form (stacks_of l.stacks) l.members pair.sides one) (map pair_of (take l.pair-index l.pairs)) (map told_of l.told.items);
  trees : HaveTrees (stacks_of l.stacks) l.members (map pair_of (take l.pair-index l.pairs)) (λ nodes. nodes + l.spare ≡ l.max_nodes);
  kept : IsKept l.form (stacks_of l.stacks) l.members l.kept;
}
