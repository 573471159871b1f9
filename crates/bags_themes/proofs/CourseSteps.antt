-- What comes after a look-up, step by step.
use Rattle.std.proofs.Common.{◌≡◌, ℕ, zero, suc, ◌-◌, ◌<◌, ◌==◌, false, true, List, [], ◌∷◌, ◌++◌, length, Some, None, refl, sym, ap, ◌∙◌, append_assoc, arith}
use Rattle.std.specs.Prelude.{Result, Ok, Err}
use Rattle.std.proofs.Math.Path.{fun_ext}
use Rattle.contract_words.specs.Faults.{◌>>=◌}
use Rattle.contract_words.specs.Sequences.{with_front}
use Rattle.reference_resolver.specs.res_value.declared.res_id.ResId.{ResId}
use Rattle.reference_resolver.specs.overlay_map.Layer.{LayerOf}
use Rattle.reference_resolver.specs.declared.end.End.{End}
use Rattle.reference_resolver.specs.declared.end.End.TheVariants as of_end
use Rattle.reference_resolver.specs.declared.next.Next.{Next}
use Rattle.reference_resolver.specs.declared.next.Next.TheVariants as nexts
use Rattle.reference_resolver.specs.declared.step.Step.{Step}
use Rattle.reference_resolver.specs.Selection.{selected, step_of}
use Rattle.reference_resolver.specs.Ends.{cut_off, next_within}
use Rattle.reference_resolver.specs.Trace.{Trace, scan_look_up, trace_of}
use Rattle.reference_resolver.proofs.Chains.{ends_within, goes_on_within}
use Rattle.bag_rows.specs.declared.bag_row.BagRow.{BagRow}
use Rattle.bags_themes.specs.declared.bag_fault.BagFault.{BagFault}
use Rattle.bags_themes.specs.Bag.{FoundBagOf, bag_in, parent_of, chain_of, most_parents, merged, bag_of}
use Rattle.bags_themes.specs.BagIds.{most_bags, ids_after, bag_ids}
use Rattle.bags_themes.specs.Theme.{ThemeOf, AttributeValues, value_of, values_after, AppliesRows}
use Rattle.bags_themes.specs.Attribute.{attributes_followed, slot_of}
use Rattle.bags_themes.specs.AttributeTrace.{behind, ended, steps_of_ids, slot_trace, style_end, style_by, styles_trace}
use Rattle.bags_themes.specs.Course.{trace_by, after_reference, found_or, chain_after, merged_or, after_bag}
use Rattle.bags_themes.proofs.ChainSteps.{chain_of-top, chain_of-deep, chain_of-next, twice}

-- ---- traces with steps before them

pub same_parts : (t u : Trace) → t.steps ≡ u.steps → t.end ≡ u.end → t ≡ u
same_parts t u steps end =
    let with_steps : List Step → Trace = λ steps. record { steps = steps; end = t.end } in
    let with_end : End → Trace = λ end. record { steps = u.steps; end = end } in
    ap with_steps steps ∙ ap with_end end

pub behind_both : (steps more : List Step) (t : Trace) → behind (steps ++ more) t ≡ behind steps (behind more t)
behind_both steps more t = same_parts (behind (steps ++ more) t) (behind steps (behind more t)) (append_assoc steps more t.steps) refl

-- ---- references

reference_by : (stack : List LayerOf) (left id : ℕ) (d : List ℕ) (next : Next) → next_within stack left id d ≡ next → behind (scan_look_up step_of stack d id) (trace_by stack left d next) ≡ trace_of stack left id d
reference_by stack left id d (nexts.LookUp target) leads =
    let goes = goes_on_within stack left id d target leads in
    same_parts (behind (scan_look_up step_of stack d id) (trace_by stack left d (nexts.LookUp target))) (trace_of stack left id d)
    (ap (λ (ids : List ℕ). steps_of_ids stack d ids) (sym goes.2))
    (sym goes.1)
reference_by stack left id d (nexts.EndsAt end) leads =
    let ends = ends_within stack left id d end leads in
    same_parts (behind (scan_look_up step_of stack d id) (trace_by stack left d (nexts.EndsAt end))) (trace_of stack left id d)
    (ap (λ (ids : List ℕ). steps_of_ids stack d ids) (sym ends.1))
    (sym ends.0)

pub reference_begins : (stack : List LayerOf) (left id : ℕ) (d : List ℕ) → behind (scan_look_up step_of stack d id) (after_reference stack left id (selected stack id d) d) ≡ trace_of stack left id d
reference_begins stack left id d = reference_by stack left id d (next_within stack left id d) refl

-- a reference leads on only where one may still be followed
pub leads_on : (left : ℕ) (next : Next) (target : ResId) → nexts.LookUp target ≡ cut_off left next → 0 < left
leads_on zero (nexts.LookUp other) target e = absurd (cc)
leads_on zero (nexts.EndsAt end) target e = absurd (cc)
leads_on (suc left) next target e = omega arith

-- ---- the chain of a style

ids_none : (stack : List LayerOf) (left : ℕ) (fault : BagFault) (d : List ℕ) → ids_after stack left (Err fault) d ≡ []
unfolding ids_after
ids_none stack zero fault d = refl
ids_none stack (suc left) fault d = refl

found_some : (bags : List FoundBagOf) (fault : BagFault) → 0 < length bags → found_or bags fault ≡ Ok bags
found_some [] fault some = absurd (omega arith)
found_some (bag ∷ bags) fault some = refl

found_more : (bags : List FoundBagOf) (bag : FoundBagOf) (fault : BagFault) → found_or (bags ++ bag ∷ []) fault ≡ Ok (bags ++ bag ∷ [])
found_more [] bag fault = refl
found_more (first ∷ bags) bag fault = refl

-- the first is no bag
pub no_style : (stack : List LayerOf) (attr : ℕ) (styles : List ResId) (values : AttributeValues) (style : ResId) (left : ℕ) (bags : List FoundBagOf) (fault : BagFault) (d : List ℕ) → length bags ≡ 0
    → ended (style_end style fault) ≡ after_bag stack attr styles values style left bags (Err fault) d
unfolding chain_after
no_style stack attr styles values style left [] fault d none = rw (ids_none stack left fault d) refl
no_style stack attr styles values style left (bag ∷ bags) fault d none = absurd (omega arith)

-- a parent is no bag
pub no_parent : (stack : List LayerOf) (attr : ℕ) (styles : List ResId) (values : AttributeValues) (style : ResId) (left : ℕ) (bags : List FoundBagOf) (fault : BagFault) (d : List ℕ) → 0 < length bags
    → styles_trace stack attr (values_after true (merged bags) values) styles d ≡ after_bag stack attr styles values style left bags (Err fault) d
unfolding chain_after
no_parent stack attr styles values style left bags fault d some = rw (ids_none stack left fault d, found_some bags fault some) refl

-- a parent too many
pub too_many : (stack : List LayerOf) (attr : ℕ) (styles : List ResId) (values : AttributeValues) (style : ResId) (left : ℕ) (bags : List FoundBagOf) (bag : FoundBagOf) (d : List ℕ) → left ≡ 0
    → ended (of_end.TooLong style) ≡ after_bag stack attr styles values style left bags (Ok bag) d
unfolding chain_after ids_after
too_many stack attr styles values style left bags bag d none = rw none refl

-- the topmost
pub top_bag : (stack : List LayerOf) (attr : ℕ) (styles : List ResId) (values : AttributeValues) (style : ResId) (left : ℕ) (bags : List FoundBagOf) (bag : FoundBagOf) (d : List ℕ) → 0 < left → (bag.parent == 0) ≡ true
    → styles_trace stack attr (values_after true (merged (bags ++ bag ∷ [])) values) styles d ≡ after_bag stack attr styles values style left bags (Ok bag) d
unfolding chain_after ids_after
top_bag stack attr styles values style zero bags bag d some none = absurd (omega arith)
top_bag stack attr styles values style (suc left) bags bag d some none =
    let top : parent_of stack bag d ≡ None = rw none refl in
    rw (none, chain_of-top stack left bag d top) refl

-- one that has a parent
chain_more : (stack : List LayerOf) (left : ℕ) (bags : List FoundBagOf) (bag : FoundBagOf) (d : List ℕ) (found : Result FoundBagOf BagFault) → (bag.parent == 0) ≡ false → bag_in (selected stack bag.parent d) ≡ found
    → with_front bags (chain_of stack left bag d) ≡ chain_after stack left (bags ++ bag ∷ []) found d
unfolding chain_after
chain_more stack left bags bag d (Err fault) has is =
    let none : parent_of stack bag d ≡ None = rw (has, is) refl in
    rw (chain_of-top stack left bag d none) (sym (found_more bags bag fault))
chain_more stack zero bags bag d (Ok parent) has is =
    let some : parent_of stack bag d ≡ Some parent = rw (has, is) refl in
    rw (chain_of-deep stack zero bag parent d some refl) refl
chain_more stack (suc left) bags bag d (Ok parent) has is =
    let some : parent_of stack bag d ≡ Some parent = rw (has, is) refl in
    let less : suc left - 1 ≡ left = omega arith in
    rw (chain_of-next stack (suc left) bag parent d some (omega arith), less) (twice bags (bag ∷ []) (chain_of stack left parent d))

goes_up : (stack : List LayerOf) (attr : ℕ) (styles : List ResId) (values : AttributeValues) (style : ResId) (left : ℕ) (bags : List FoundBagOf) (bag : FoundBagOf) (d : List ℕ) → 0 < left → (bag.parent == 0) ≡ false
    → behind (scan_look_up step_of stack d bag.parent) (after_bag stack attr styles values style (left - 1) (bags ++ bag ∷ []) (bag_in (selected stack bag.parent d)) d) ≡ after_bag stack attr styles values style left bags (Ok bag) d
unfolding chain_after ids_after
goes_up stack attr styles values style zero bags bag d some has = absurd (omega arith)
goes_up stack attr styles values style (suc left) bags bag d some has =
    let less : suc left - 1 ≡ left = omega arith in
    let found = bag_in (selected stack bag.parent d) in
    let chain = chain_more stack left bags bag d found has refl in
    rw (less, has, chain)
    (sym (behind_both (scan_look_up step_of stack d bag.parent) (steps_of_ids stack d (ids_after stack left found d))
    (style_by (λ rows. styles_trace stack attr (values_after true rows values) styles d) style (merged_or (chain_after stack left (bags ++ bag ∷ []) found d)))))

-- the same, where the bags and the theme are those that the course has
pub parent_course : (stack : List LayerOf) (attr : ℕ) (styles : List ResId) (values old : AttributeValues) (style : ResId) (left : ℕ) (more bags : List FoundBagOf) (bag : FoundBagOf) (d : List ℕ) → values ≡ old → more ≡ bags ++ bag ∷ [] → 0 < left → (bag.parent == 0) ≡ false
    → behind (scan_look_up step_of stack d bag.parent) (after_bag stack attr styles values style (left - 1) more (bag_in (selected stack bag.parent d)) d) ≡ after_bag stack attr styles old style left bags (Ok bag) d
parent_course stack attr styles values old style left more bags bag d same added some has =
    ap (λ (v : AttributeValues). behind (scan_look_up step_of stack d bag.parent) (after_bag stack attr styles v style (left - 1) more (bag_in (selected stack bag.parent d)) d)) same
    ∙ ap (λ (b : List FoundBagOf). behind (scan_look_up step_of stack d bag.parent) (after_bag stack attr styles old style (left - 1) b (bag_in (selected stack bag.parent d)) d)) added
    ∙ goes_up stack attr styles old style left bags bag d some has

-- ---- styles

by_chain : (chain : Result (List FoundBagOf) BagFault) → merged_or (with_front [] chain) ≡ merged_or chain
by_chain (Ok chain) = refl
by_chain (Err fault) = refl

by_found : (stack : List LayerOf) (d : List ℕ) (found : Result FoundBagOf BagFault) → merged_or (chain_after stack most_bags [] found d) ≡ (found >>= (λ bag. merged_or (chain_of stack most_parents bag d)))
unfolding chain_after
by_found stack d (Ok bag) = by_chain (chain_of stack most_parents bag d)
by_found stack d (Err fault) = refl

bag_of_chain : (stack : List LayerOf) (id : ℕ) (d : List ℕ) → merged_or (chain_after stack most_bags [] (bag_in (selected stack id d)) d) ≡ bag_of stack id d
unfolding bag_of
bag_of_chain stack id d = by_found stack d (bag_in (selected stack id d))

style_begins : (stack : List LayerOf) (attr : ℕ) (values : AttributeValues) (style : ResId) (styles : List ResId) (d : List ℕ)
    → behind (scan_look_up step_of stack d style.0) (after_bag stack attr styles values style most_bags [] (bag_in (selected stack style.0 d)) d) ≡ styles_trace stack attr values (style ∷ styles) d
unfolding styles_trace
style_begins stack attr values style styles d =
    let others : List BagRow → Trace = λ rows. styles_trace stack attr (values_after true rows values) styles d in
    let found = bag_in (selected stack style.0 d) in
    sym (behind_both (scan_look_up step_of stack d style.0) (steps_of_ids stack d (ids_after stack most_bags found d)) (style_by others style (merged_or (chain_after stack most_bags [] found d))))
    ∙ ap (λ (rows : Result (List BagRow) BagFault). behind (steps_of_ids stack d (bag_ids stack style.0 d)) (style_by others style rows)) (bag_of_chain stack style.0 d)

-- before its first look-up a style has found nothing
pub next_begins : (stack : List LayerOf) (attr : ℕ) (values old : AttributeValues) (style : ResId) (styles : List ResId) (bags : List FoundBagOf) (d : List ℕ) → values ≡ old → bags ≡ []
    → behind (scan_look_up step_of stack d style.0) (after_bag stack attr styles values style most_bags bags (bag_in (selected stack style.0 d)) d) ≡ styles_trace stack attr old (style ∷ styles) d
next_begins stack attr values old style styles bags d same none =
    ap (λ (v : AttributeValues). behind (scan_look_up step_of stack d style.0) (after_bag stack attr styles v style most_bags bags (bag_in (selected stack style.0 d)) d)) same
    ∙ ap (λ (b : List FoundBagOf). behind (scan_look_up step_of stack d style.0) (after_bag stack attr styles old style most_bags b (bag_in (selected stack style.0 d)) d)) none
    ∙ style_begins stack attr old style styles d

-- none is left
pub no_styles : (stack : List LayerOf) (attr : ℕ) (values : AttributeValues) (styles : List ResId) (d : List ℕ) → length styles ≡ 0 → slot_trace stack (slot_of values attributes_followed attr) d ≡ styles_trace stack attr values styles d
unfolding styles_trace
no_styles stack attr values [] d none = refl
no_styles stack attr values (style ∷ styles) d none = absurd (omega arith)

-- a chain was applied
pub applied : (stack : List LayerOf) (attr : ℕ) (styles : List ResId) (rows : List BagRow) (old new : ThemeOf) (d : List ℕ) → AppliesRows true rows old new
    → styles_trace stack attr (value_of new) styles d ≡ styles_trace stack attr (values_after true rows (value_of old)) styles d
applied stack attr styles rows old new d applies =
    let same : value_of new ≡ values_after true rows (value_of old) = fun_ext applies in
    ap (λ (values : AttributeValues). styles_trace stack attr values styles d) same
