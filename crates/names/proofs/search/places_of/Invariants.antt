use Rattle.std.proofs.Common.{map, take}
use Rattle.names.specs.Sought.{ArePlacesOf}
use Rattle.names.proofs.search.places_of.Given as goal

abbrev pub invariant-loop-place : goal.invariant-loop-place
invariant-loop-place l = ArePlacesOf l.places (map (λ one. one.name.entry_name.now) (take l.place l.wanted))
