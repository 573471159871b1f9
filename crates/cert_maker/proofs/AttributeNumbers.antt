-- The trace of a goal asks a device for its numbers alone.
use Rattle.std.proofs.Common.{◌≡◌, ℕ, zero, suc, true, List, [], ◌∷◌, Result, Ok, Err, refl, ◌∙◌, ap}
use Rattle.std.proofs.Math.Path.{fun_ext}
use Rattle.std.specs.List.{flat_map}
use Rattle.cert_checker.specs.res_value.declared.res_id.ResId.{ResId}
use Rattle.cert_checker.specs.overlay_map.Layer.{LayerOf}
use Rattle.cert_checker.specs.reference_resolver.declared.step.Step.{Step}
use Rattle.cert_checker.specs.reference_resolver.Selection.{step_of}
use Rattle.cert_checker.specs.reference_resolver.Ends.{references_followed}
use Rattle.cert_checker.specs.reference_resolver.Trace.{Trace, scan_look_up}
use Rattle.cert_checker.specs.bags_themes.bag_rows.declared.bag_row.BagRow.{BagRow}
use Rattle.cert_checker.specs.bags_themes.declared.bag_fault.BagFault.{BagFault}
use Rattle.cert_checker.specs.bags_themes.declared.slot.Slot.{Slot}
use Rattle.cert_checker.specs.bags_themes.declared.slot.Slot.TheVariants.{Refers, Ends}
use Rattle.cert_checker.specs.bags_themes.Bag.{FoundBagOf, most_parents, parent_of, chain_of, bag_of}
use Rattle.cert_checker.specs.bags_themes.BagIds.{most_bags, ids_after, bag_ids}
use Rattle.cert_checker.specs.bags_themes.Theme.{AttributeValues, unset, values_after}
use Rattle.cert_checker.specs.bags_themes.Attribute.{attributes_followed, references_after_slot, slot_of}
use Rattle.cert_checker.specs.bags_themes.AttributeTrace.{behind, steps_of_ids, slot_trace, style_by, styles_trace}
use Rattle.cert_checker.specs.res_value.Goal.{GoalSeen, IdGoal, AttrGoal}
use Rattle.cert_checker.specs.FirstFault.{goal_trace}
use Rattle.cert_maker.proofs.ByNumbers.{GoesByNumbers, SameNumbers, selected-same, scan-look-up-same, trace-same}

-- ---- bags

parent-same : (stack : List LayerOf) (bag : FoundBagOf) (x y : List ℕ) → SameNumbers x y → parent_of stack bag x ≡ parent_of stack bag y
parent-same stack bag x y e = rw (selected-same stack bag.parent x y e)

chain-same : (stack : List LayerOf) (most : ℕ) (bag : FoundBagOf) (x y : List ℕ) → SameNumbers x y → chain_of stack most bag x ≡ chain_of stack most bag y
unfolding chain_of
chain-same stack zero bag x y e = rw (parent-same stack bag x y e)
chain-same stack (suc most) bag x y e =
    let rest : (parent : FoundBagOf) → chain_of stack most parent x ≡ chain_of stack most parent y = λ parent. chain-same stack most parent x y e in
    simp (parent-same stack bag x y e, rest)

bag-same : (stack : List LayerOf) (id : ℕ) (x y : List ℕ) → SameNumbers x y → bag_of stack id x ≡ bag_of stack id y
unfolding bag_of
bag-same stack id x y e =
    let chains : (bag : FoundBagOf) → chain_of stack most_parents bag x ≡ chain_of stack most_parents bag y = λ bag. chain-same stack most_parents bag x y e in
    simp (selected-same stack id x y e, chains)

-- ---- the ids that are looked up

ids-after-same : (stack : List LayerOf) (left : ℕ) (found : Result FoundBagOf BagFault) (x y : List ℕ) → SameNumbers x y → ids_after stack left found x ≡ ids_after stack left found y
unfolding ids_after
ids-after-same stack zero found x y e = refl
ids-after-same stack (suc left) (Err fault) x y e = refl
ids-after-same stack (suc left) (Ok bag) x y e =
    let rest : (found : Result FoundBagOf BagFault) → ids_after stack left found x ≡ ids_after stack left found y = λ found. ids-after-same stack left found x y e in
    simp (selected-same stack bag.parent x y e, rest)

ids-same : (stack : List LayerOf) (id : ℕ) (x y : List ℕ) → SameNumbers x y → bag_ids stack id x ≡ bag_ids stack id y
ids-same stack id x y e =
    let rest : (found : Result FoundBagOf BagFault) → ids_after stack most_bags found x ≡ ids_after stack most_bags found y = λ found. ids-after-same stack most_bags found x y e in
    simp (selected-same stack id x y e, rest)

steps-same : (stack : List LayerOf) (id : ℕ) (x y : List ℕ) → SameNumbers x y → steps_of_ids stack x (bag_ids stack id x) ≡ steps_of_ids stack y (bag_ids stack id y)
steps-same stack id x y e =
    ap (λ (ids : List ℕ). flat_map (scan_look_up step_of stack x) ids) (ids-same stack id x y e)
    ∙ ap (λ (tell : ℕ → List Step). flat_map tell (bag_ids stack id y)) (scan-look-up-same stack x y e)

-- ---- the trace

slot-same : (stack : List LayerOf) (slot : Slot) (x y : List ℕ) → SameNumbers x y → slot_trace stack slot x ≡ slot_trace stack slot y
slot-same stack (Refers target) x y e = trace-same stack references_after_slot target.0 x y e
slot-same stack (Ends end) x y e = refl

styles-same : (stack : List LayerOf) (attr : ℕ) (values : AttributeValues) (styles : List ResId) (x y : List ℕ) → SameNumbers x y → styles_trace stack attr values styles x ≡ styles_trace stack attr values styles y
unfolding styles_trace
styles-same stack attr values [] x y e = slot-same stack (slot_of values attributes_followed attr) x y e
styles-same stack attr values (style ∷ styles) x y e =
    let after : List ℕ → List BagRow → Trace = λ d rows. styles_trace stack attr (values_after true rows values) styles d in
    let others : after x ≡ after y = fun_ext (λ rows. styles-same stack attr (values_after true rows values) styles x y e) in
    let rest_by : List ℕ → Trace = λ d. style_by (after d) style (bag_of stack style.0 d) in
    let rest : rest_by x ≡ rest_by y =
    ap (λ (f : List BagRow → Trace). style_by f style (bag_of stack style.0 x)) others
    ∙ ap (λ (bag : Result (List BagRow) BagFault). style_by (after y) style bag) (bag-same stack style.0 x y e) in
    ap (λ (steps : List Step). behind steps (rest_by x)) (steps-same stack style.0 x y e)
    ∙ ap (λ (t : Trace). behind (steps_of_ids stack y (bag_ids stack style.0 y)) t) rest

pub goal-by-numbers : (stack : List LayerOf) (goal : GoalSeen) → GoesByNumbers (goal_trace stack goal)
goal-by-numbers stack (IdGoal id) x y same = trace-same stack references_followed id.0 x y (fun_ext same)
goal-by-numbers stack (AttrGoal attr styles) x y same = styles-same stack attr.0 unset styles x y (fun_ext same)
