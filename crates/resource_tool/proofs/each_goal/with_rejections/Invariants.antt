use Rattle.std.proofs.Common.{◌≡◌, ◌+◌, length, map}
use Rattle.std.specs.Vec.Iter.{into_iter_items}
use Rattle.resource_text.specs.cert_maker.cert_tree.Certificate.{goal_of}
use Rattle.resource_tool.proofs.EachGoalSteps.{AllBut}
use Rattle.resource_tool.proofs.each_goal.with_rejections.Given as goal

-- with those of the goals that are left they are all, and so many are left
abbrev pub invariant-loop-tree : goal.invariant-loop-tree
invariant-loop-tree l =
    AllBut l.stack l.members l.fn.before.items l.fn.place (map goal_of l.fn.trees.items) l.place (map goal_of (into_iter_items l.tree-iterator)) l.rejections.items
    × (l.place + length (into_iter_items l.tree-iterator) ≡ l.fn.place + length l.fn.trees.items)
