use Rattle.std.proofs.Common.{List, ℕ, drop, length, ap, subst, sym, arith, ◌∙◌, ◌≡◌, ◌+◌, ◌-◌, ◌<◌, [], refl}
use Rattle.std.proofs.lemmas.List.{drop_all}
use Rattle.std.proofs.lemmas.Option.{slice_get_read}
use Rattle.type_chunks.specs.type_entries.declared.checked_type.CheckedType.{CheckedType}
use Rattle.type_chunks.specs.Row.{RowOf}
use Rattle.type_chunks.specs.TypeRows.{rows_of_types}
use Rattle.type_chunks.proofs.type_entries.TypeRowsSteps.{rows_of_types-none}
use Rattle.overlay_map.specs.Places.{ArePlacesOf}
use Rattle.overlay_map.proofs.PlaceSteps.{ArePlacesOf-none, ArePlacesOf-next, rows-from-number}
use Rattle.overlay_map.proofs.row_places.RowPlaces.of_types.Goals as goal

pub loop-number-init : goal.loop-number-init
loop-number-init c =
    let types = c.args.types.now in
    let none : rows_of_types (drop (length types) types) ≡ [] = ap (λ (t : List CheckedType). rows_of_types t) (drop_all (length types) types (omega arith)) ∙ rows_of_types-none in
    record {
      within = omega arith;
      linked = λ id. omega (arith, c.new.ensures id);
      places = subst (λ (rows : List RowOf). ArePlacesOf rows types (record { heads = c.new.result; links = c.new-2.result })) (sym none) (ArePlacesOf-none types (record { heads = c.new.result; links = c.new-2.result }) c.new-2.ensures.items);
    }

pub loop-number-preserved : goal.loop-number-preserved
loop-number-preserved c =
    let types = c.args.types.now in
    let so_far = c.loop-number.invariant in
    let number = c.loop-number.number - 1 in
    let here = c.index-types-number in
    let within : number < length types = omega (arith, so_far.within, c.loop-number-test.true) in
    let last : number + 1 ≡ c.loop-number.number = omega (arith, c.loop-number-test.true) in
    let found = slice_get_read types (length types) number here.result refl within here.is in
    let rows = rows-from-number types number here.result within here.is in
    let those = subst (λ (n : ℕ). ArePlacesOf (rows_of_types (drop n types)) types c.loop-number.places) (sym last) so_far.places in
    record {
      within = omega (arith, so_far.within);
      linked = c.in_ok-push_type.ensures.linked so_far.linked;
      places = subst (λ (r : List RowOf). ArePlacesOf r types c.push_type.new.self) (sym rows)
          (ArePlacesOf-next types (rows_of_types (drop (number + 1) types)) number here.result c.loop-number.places c.push_type.new.self found (c.in_ok-push_type.ensures.added so_far.linked) those);
    }
