use Rattle.std.proofs.Common.{◌≡◌, map, take}
use Rattle.command_base.specs.names.Names.{name_of}
use Rattle.command_base.specs.NamedTarget.{named_seen}
use Rattle.command_base.proofs.pairs.names_of.Given as goal

-- the names so far are those of the targets so far
abbrev pub invariant-loop-named : goal.invariant-loop-named
invariant-loop-named l = map name_of l.names.items ≡ map (λ named. (named_seen named).name) (take l.named-index l.targets)
