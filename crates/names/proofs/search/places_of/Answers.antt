use Rattle.std.proofs.Common.{List, map, subst}
use Rattle.std.proofs.lemmas.List.{take_all}
use Rattle.names.specs.declared.wanted.Wanted.{Wanted}
use Rattle.names.specs.Sought.{ArePlacesOf}
use Rattle.names.proofs.PlacesSteps.{ArePlacesOf-pushed}
use Rattle.names.proofs.search.places_of.Goals as goal

pub loop-place-preserved : goal.loop-place-preserved
loop-place-preserved c =
    ArePlacesOf-pushed c.loop-place.places c.push.new.self c.args.wanted.now c.loop-place.place _ c.as_bytes.result.now c.loop-place-test.true c.as_bytes.ensures.value c.loop-place.invariant c.in_ok-push.ensures

pub returns : goal.returns
returns c =
    subst (λ (names : List Wanted). ArePlacesOf c.loop-place.places (map (λ one. one.name.entry_name.now) names)) (take_all c.loop-place.place c.args.wanted.now c.loop-place-test.false) c.loop-place.invariant
