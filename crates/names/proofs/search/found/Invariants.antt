use Rattle.std.proofs.Common.{◌≡◌, map, take}
use Rattle.names.specs.declared.sought.Sought.{Sought}
use Rattle.names.proofs.search.found.Given as goal

abbrev pub invariant-loop-one : goal.invariant-loop-one
invariant-loop-one l = l.found.items ≡ map (λ (one : Sought). one.found) (take l.one-index l.sought)
