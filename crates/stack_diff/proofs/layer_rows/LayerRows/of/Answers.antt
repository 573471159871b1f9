use Rattle.std.proofs.Common.{◌≡◌, ◌+◌, arith, length, ap}
use Rattle.std.proofs.lemmas.Grind.{common_steps}
use Rattle.reference_resolver.specs.type_chunks.Row.{row_of}
use Rattle.stack_diff.specs.PlacesSeen.{places_at}
use Rattle.stack_diff.proofs.LayerSteps.{places-next}
use Rattle.stack_diff.proofs.layer_rows.LayerRows.of.Goals as goal

pub loop-row-preserved : goal.loop-row-preserved
loop-row-preserved c =
    let l = c.loop-row in
    let old = places_at l.places in
    let counted : c.in_ok-count.count ≡ l.count + 1 = grind (arith, common_steps, c.checked_add.ensures, c.in_ok-count.ensures.value) in
    let length_is = ap length c.in-Some.ensures.steps in
    let before = l.invariant.count in
    record {
      count = omega (arith, counted, length_is, before);
      places = λ id. places-next id l.count _ (row_of c.in-Some.row) _ _ (old c.in-Some.row.id.0) (old id) _ _ c.in-Some.ensures.steps counted (c.in_ok-push.ensures.put id) (λ e. ap old e) (l.invariant.places id);
      listed = c.in_ok-push.ensures.ids l.invariant.listed;
    }
