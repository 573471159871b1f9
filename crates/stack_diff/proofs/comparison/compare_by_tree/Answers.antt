use Rattle.std.proofs.Common.{◌≡◌}
use Rattle.stack_diff.specs.Stacks.{stacks_of}
use Rattle.stack_diff.proofs.Joining.{changes-grown}
use Rattle.stack_diff.proofs.Unchanged.{tree-beside}
use Rattle.stack_diff.proofs.comparison.compare_by_tree.Goals as goal

pub returns : goal.returns
returns c =
    let all = changes-grown _ c.args.members.now c.args.most c.in_ok-leaves.field-0 c.in-Some.leaves c.in_ok-changes.changes.items c.in_ok-leaves.ensures c.in-Some.is c.in_ok-changes.ensures in
    (all.0, tree-beside (stacks_of c.args.stacks) c.args.members.now c.args.old c.args.new (λ nodes. nodes ≡ c.in-Some.leaves.nodes) c.requires all.1, all.2)
