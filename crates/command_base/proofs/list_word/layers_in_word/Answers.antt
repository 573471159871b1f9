use Rattle.std.proofs.Common.{ℕ, List, [], map, arith, ap, ◌∙◌}
use Rattle.std.specs.Borrow.{Bor}
use Rattle.command_base.specs.ListWord.{with_groups}
use Rattle.command_base.proofs.GroupsLeft.{GroupsLeft-next, GroupsLeft-end, group_of}
use Rattle.command_base.proofs.list_word.layers_in_word.Goals as goal

pub loop-group-preserved : goal.loop-group-preserved
loop-group-preserved c =
    GroupsLeft-next c.loop-group.layers.items c.push_group.new.layers.items c.loop-group.group-index c.deref-group-items.result.now _ c.loop-group.invariant c.loop-group-test.true c.in_ok-push_group.ensures

pub returns : goal.returns
returns c =
    GroupsLeft-end c.loop-group.layers.items c.loop-group.group-index c.deref-group-items.result.now c.loop-group.invariant (omega arith)
    ∙ ap (λ (groups : List (Bor (List ℕ))). with_groups [] (map group_of groups)) c.deref-group-items.ensures.value ∙ ap (with_groups []) c.in_ok-groups.ensures
