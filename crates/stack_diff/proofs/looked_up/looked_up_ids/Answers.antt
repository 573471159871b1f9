use Rattle.std.proofs.Common.{◌≡◌, ◌≢◌, inl, inr, ℕ, [], ◌∷◌, ◌+◌, List, drop, map, sym, ap, ◌∙◌, subst}
use Rattle.std.proofs.lemmas.List.{drop_more, drop_all}
use Rattle.std.proofs.lemmas.Result.{IfOk-weaker}
use Rattle.std.specs.Prelude.{Contains}
use Rattle.std.specs.List.Sorted.{IsStrictlySortedBy}
use Rattle.std.specs.Ordering.{nat_cmp}
use Rattle.reference_resolver.specs.res_value.declared.res_id.ResId.{ResId}
use Rattle.stack_diff.specs.declared.layer_rows.LayerRows.{LayerRows}
use Rattle.stack_diff.specs.RowPlaces.{row_places_from, row_places}
use Rattle.stack_diff.specs.LayersSeen.{layer_of, layers_of}
use Rattle.stack_diff.proofs.LayerSteps.{in-layer, contained, numbers-of-ids, has-all}
use Rattle.stack_diff.proofs.looked_up.looked_up_ids.Goals as goal

pub loop-layer-init : goal.loop-layer-init
loop-layer-init c = λ id some. inr some

pub loop-layer-preserved : goal.loop-layer-preserved
loop-layer-preserved c = λ id some.
    let all = c.args.layers.now in
    let k = c.loop-layer.layer-index in
    let x = c.layer-item.result in
    let next : drop k all ≡ x ∷ drop (k + 1) all = drop_more all k x c.loop-layer-test.true ∙ ap (λ (y : LayerRows). y ∷ drop (k + 1) all) (sym c.layer-item.is) in
    elim (c.loop-layer.invariant id some) [
      | inl has ↦ inl (c.in_ok-put_ids.ensures.kept id has)
      | inr more ↦ elim (in-layer k (layer_of x) (layers_of (drop (k + 1) all)) id (subst (λ (left : List LayerRows). row_places_from k (layers_of left) id ≢ []) next more)) [
        | inl here ↦ inl (c.in_ok-put_ids.ensures.put id here)
        | inr later ↦ inr later
      ]
    ]

pub returns-clause-once : goal.returns-clause-once
returns-clause-once c =
    IfOk-weaker c.ids_in.result _ _ (λ ids are.
    subst (IsStrictlySortedBy nat_cmp) (sym (ap (map (λ (id : ResId). id.0)) are ∙ numbers-of-ids c.loop-layer.numbers.keys)) c.ids_in.ensures.once) c.ids_in.ensures.ids

pub returns-clause-all : goal.returns-clause-all
unfolding row_places
returns-clause-all c =
    IfOk-weaker c.ids_in.result _ _ (λ ids are id some.
    let has = has-all c.loop-layer.layer-index _ id (ap layers_of (drop_all c.loop-layer.layer-index c.args.layers.now c.loop-layer-test.false)) (c.loop-layer.invariant id some) in
    subst (λ (ns : List ℕ). Contains ns id) (sym (ap (map (λ (id : ResId). id.0)) are ∙ numbers-of-ids c.loop-layer.numbers.keys)) (contained c.loop-layer.numbers id has)) c.ids_in.ensures.ids
