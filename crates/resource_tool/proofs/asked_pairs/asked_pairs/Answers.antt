use Rattle.std.proofs.Common.{◌≡◌, List, ◌++◌, Some, map, subst}
use Rattle.std.specs.List.{All}
use Rattle.command_base.specs.overlay_map.Layer.{LayerOf}
use Rattle.stack_diff.specs.names.Laws.{id_of}
use Rattle.stack_diff.specs.names.NamedIds.{packages_of}
use Rattle.stack_diff.specs.names.NamedSet.{named_set_of}
use Rattle.stack_diff.specs.names.Pairs.{PairOf, pair_of, sides_of}
use Rattle.resource_tool.proofs.Valued.{asked-keep}
use Rattle.resource_tool.proofs.asked_pairs.asked_pairs.Goals as goal

pub returns-clause-of_stacks : goal.returns-clause-of_stacks
returns-clause-of_stacks c =
    let stands : List LayerOf × List LayerOf → PairOf → Type 0 = λ both pair. sides_of (id_of both.0 pair.label) (id_of both.1 pair.label) ≡ Some pair.sides in
    let all = map pair_of c.in_ok-all.all.items in
    let right = subst (λ (both : List LayerOf × List LayerOf). All (stands both) all) (λ i. (c.old_stack-old.ensures i, c.new_stack-new.ensures i)) c.in_ok-all.ensures.side_by_side.right in
    asked-keep (stands (c.args.stacks.old.now, c.args.stacks.new.now)) (packages_of c.old_stack-old.result.now ++ packages_of c.new_stack-new.result.now) (map named_set_of c.args.sets.now) all (map pair_of c.in_ok-pairs.pairs.items) right
    c.in_ok-pairs.ensures
