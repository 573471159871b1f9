use Rattle.command_base.proofs.GroupsLeft.{GroupsLeft}
use Rattle.command_base.proofs.list_word.layers_in_word.Given as goal

-- the layers so far, and those of the groups that are left, are all layers
abbrev pub invariant-loop-group : goal.invariant-loop-group
invariant-loop-group l = GroupsLeft l.layers.items l.group-index l.group-items
