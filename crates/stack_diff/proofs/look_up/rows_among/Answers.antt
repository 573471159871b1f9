use Rattle.std.proofs.Common.{ℕ, List, ◌++◌, append-nil, sym, ap, ◌∙◌}
use Rattle.std.proofs.lemmas.List.{drop_all}
use Rattle.stack_diff.specs.declared.layer_rows.LayerRows.{LayerRows}
use Rattle.stack_diff.specs.LayersSeen.{layers_of, stack_among}
use Rattle.stack_diff.specs.RowPlaces.{row_places, row_places_at, row_places_from}
use Rattle.stack_diff.proofs.LayerSteps.{rows-next}
use Rattle.stack_diff.proofs.look_up.rows_among.Goals as goal

pub loop-index-preserved : goal.loop-index-preserved
loop-index-preserved c =
    let index = c.loop-index.index in
    let rows = c.loop-index.rows.items in
    let layer = c.index-layers-index in
    rows-next c.args.among c.args.layers.now index layer.result c.args.id.0 rows _ _ c.loop-index-test.true layer.is c.loop-index.invariant
    (c.in_ok-push_rows.ensures ∙ ap (λ (places : List ℕ). rows ++ row_places_at index places) c.places_for.ensures)

pub returns : goal.returns
unfolding row_places
returns c =
    let l = c.loop-index in
    let left = λ (layers : List LayerRows). row_places_from l.index (stack_among c.args.among (layers_of layers)) c.args.id.0 in
    sym (append-nil l.rows.items) ∙ ap (λ (layers : List LayerRows). l.rows.items ++ left layers) (sym (drop_all l.index c.args.layers.now c.loop-index-test.false)) ∙ l.invariant
