use Rattle.std.proofs.Common.{◌≡◌, map, take}
use Rattle.names.specs.Sought.{unfound}
use Rattle.names.proofs.search.unfound.Given as goal

abbrev pub invariant-loop-one : goal.invariant-loop-one
invariant-loop-one l = l.sought.items ≡ map (unfound l.packages) (take l.one-index l.wanted)
