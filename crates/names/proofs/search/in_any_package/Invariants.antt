use Rattle.std.proofs.Common.{◌≡◌, map, take}
use Rattle.names.specs.Names.{in_any_package}
use Rattle.names.proofs.search.in_any_package.Given as goal

abbrev pub invariant-loop-name : goal.invariant-loop-name
invariant-loop-name l = l.wanted.items ≡ map in_any_package (take l.name-index l.names)
