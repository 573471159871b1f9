use Rattle.std.proofs.Common.{◌≡◌, map, take}
use Rattle.names.specs.FoundSoFar.{first_of}
use Rattle.names.proofs.search.first_of_each.Given as goal

abbrev pub invariant-loop-one : goal.invariant-loop-one
invariant-loop-one l = l.first.items ≡ map first_of (take l.one-index l.found)
