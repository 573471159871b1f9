use Rattle.std.proofs.Common.{◌∙◌, ap, map}
use Rattle.std.specs.Option.{option_map}
use Rattle.std.specs.BTreeSet.{contains}
use Rattle.std.specs.Ordering.{nat_cmp}
use Rattle.std.proofs.lemmas.Bool.{or_right}
use Rattle.std.proofs.lemmas.Result.{on_ok_weaker}
use Rattle.reference_resolver.specs.res_value.declared.res_id.ResId.{ResId}
use Rattle.stack_diff.specs.RowPlaces.{places_for}
use Rattle.stack_diff.specs.PlacesSeen.{is_among}
use Rattle.stack_diff.proofs.LayerSteps.{target-of-places}
use Rattle.stack_diff.proofs.looked_up.put_ids.Goals as goal

pub returns-in_ok-targets-in-Some-clause-put : goal.returns-in_ok-targets-in-Some-clause-put
returns-in_ok-targets-in-Some-clause-put c =
    on_ok_weaker c.put_each.result (λ put id some.
    put id (or_right (contains nat_cmp c.args.numbers.now id) (is_among c.deref.result.now id)
    (target-of-places c.deref.result.now c.args.layer.now.table.now c.in-Some.map.now id
    (ap (map (λ (target : ResId). target.0)) c.deref.ensures.value ∙ c.in_ok-targets-in-Some.ensures)
    (λ none. some (ap (λ m. places_for (record { table = c.args.layer.now.table.now; map = option_map (λ m. m.now) m }) id) c.in-Some.is ∙ none))))) c.put_each.ensures
