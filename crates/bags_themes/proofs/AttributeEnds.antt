-- The end of the trace of an attribute is where it ends under its styles, and it ends nowhere else.
use Rattle.std.proofs.Common.{◌≡◌, inl, inr, ℕ, true, List, [], ◌∷◌, ◌++◌, IfOk, refl, sym, ◌∙◌, ap, subst}
use Rattle.std.specs.Prelude.{Result, Ok, Err}
use Rattle.contract_words.specs.Faults.{◌>>=◌}
use Rattle.reference_resolver.specs.res_value.declared.res_id.ResId.{ResId}
use Rattle.reference_resolver.specs.overlay_map.Layer.{LayerOf}
use Rattle.reference_resolver.specs.declared.end.End.{End}
use Rattle.bag_rows.specs.declared.bag_row.BagRow.{BagRow}
use Rattle.bags_themes.specs.declared.bag_fault.BagFault.{BagFault}
use Rattle.bags_themes.specs.declared.slot.Slot.{Slot}
use Rattle.bags_themes.specs.declared.slot.Slot.TheVariants.{Refers, Ends}
use Rattle.bags_themes.specs.Bag.{bag_of}
use Rattle.bags_themes.specs.Theme.{AttributeValues, values_after}
use Rattle.bags_themes.specs.Styles.{values_after_styles}
use Rattle.bags_themes.specs.Attribute.{attributes_followed, slot_of, end_of_slot, attribute_of}
use Rattle.bags_themes.specs.AttributeTrace.{slot_trace, style_end, style_by, styles_trace}
use Rattle.bags_themes.specs.AttributeEnd.{EndsUnder, IsTheEndUnder}

slot_end : (stack : List LayerOf) (slot : Slot) (d : List ℕ) → (slot_trace stack slot d).end ≡ end_of_slot stack slot d
slot_end stack (Refers target) d = refl
slot_end stack (Ends end) d = refl

-- ---- the first of some styles

first_end : (stack : List LayerOf) (attr : ℕ) (values : AttributeValues) (style : ResId) (styles : List ResId) (d : List ℕ) (bag : Result (List BagRow) BagFault) → bag_of stack style.0 d ≡ bag
    → (styles_trace stack attr values (style ∷ styles) d).end ≡ (style_by (λ rows. styles_trace stack attr (values_after true rows values) styles d) style bag).end
unfolding styles_trace
first_end stack attr values style styles d bag e =
    ap (λ (bag : Result (List BagRow) BagFault). (style_by (λ rows. styles_trace stack attr (values_after true rows values) styles d) style bag).end) e

first_values : (stack : List LayerOf) (values : AttributeValues) (style : ResId) (styles : List ResId) (d : List ℕ) (bag : Result (List BagRow) BagFault) → bag_of stack style.0 d ≡ bag
    → values_after_styles stack true (style ∷ styles) values d ≡ (bag >>= (λ rows. values_after_styles stack true styles (values_after true rows values) d))
unfolding values_after_styles
first_values stack values style styles d bag e =
    ap (λ (bag : Result (List BagRow) BagFault). bag >>= (λ rows. values_after_styles stack true styles (values_after true rows values) d)) e

-- ---- there is an end

by_bag : (stack : List LayerOf) (attr : ℕ) (values : AttributeValues) (style : ResId) (styles : List ResId) (d : List ℕ) (bag : Result (List BagRow) BagFault) → bag_of stack style.0 d ≡ bag
    → ((v : AttributeValues) → EndsUnder stack attr v styles d (styles_trace stack attr v styles d).end) → EndsUnder stack attr values (style ∷ styles) d (styles_trace stack attr values (style ∷ styles) d).end
unfolding values_after_styles
by_bag stack attr values style styles d (Err fault) e others = inl (record {
  before = [];
  style = style;
  others = styles;
  fault = fault;
  stands = refl;
  applied = (values, refl);
  refused = e;
  is_end = first_end stack attr values style styles d (Err fault) e;
})
by_bag stack attr values style styles d (Ok rows) e others =
    let same = first_end stack attr values style styles d (Ok rows) e in
    let goes_on = λ (left : List ResId). first_values stack values style left d (Ok rows) e in
    elim (others (values_after true rows values)) [
      | inl stops ↦ inl (record {
        before = style ∷ stops.before;
        style = stops.style;
        others = stops.others;
        fault = stops.fault;
        stands = ap (λ (left : List ResId). style ∷ left) stops.stands;
        applied = (stops.applied.0, goes_on stops.before ∙ stops.applied.1);
        refused = stops.refused;
        is_end = same ∙ stops.is_end;
      })
      | inr here ↦ inr (record { set = here.set; applied = goes_on styles ∙ here.applied; is_end = same ∙ here.is_end })
    ]

ends_under : (stack : List LayerOf) (attr : ℕ) (values : AttributeValues) (styles : List ResId) (d : List ℕ) → EndsUnder stack attr values styles d (styles_trace stack attr values styles d).end
unfolding styles_trace values_after_styles
ends_under stack attr values [] d = inr (record { set = values; applied = refl; is_end = slot_end stack (slot_of values attributes_followed attr) d })
ends_under stack attr values (style ∷ styles) d = by_bag stack attr values style styles d (bag_of stack style.0 d) refl (λ v. ends_under stack attr v styles d)

-- ---- there is no other

-- a style that is applied, before others that are
past : (stack : List LayerOf) (attr : ℕ) (values set : AttributeValues) (style : ResId) (before styles : List ResId) (d : List ℕ) (end : End) (bag : Result (List BagRow) BagFault) → bag_of stack style.0 d ≡ bag
    → ((v : AttributeValues) → values_after_styles stack true before v d ≡ Ok set → (styles_trace stack attr v styles d).end ≡ end)
    → values_after_styles stack true (style ∷ before) values d ≡ Ok set → (styles_trace stack attr values (style ∷ styles) d).end ≡ end
past stack attr values set style before styles d end (Err fault) e others applied =
    let stops : Err fault ≡ Ok set = sym (first_values stack values style before d (Err fault) e) ∙ applied in cc
past stack attr values set style before styles d end (Ok rows) e others applied =
    first_end stack attr values style styles d (Ok rows) e
    ∙ others (values_after true rows values) (sym (first_values stack values style before d (Ok rows) e) ∙ applied)

at_style : (stack : List LayerOf) (attr : ℕ) (values set : AttributeValues) (before : List ResId) (style : ResId) (others : List ResId) (d : List ℕ) (fault : BagFault)
    → bag_of stack style.0 d ≡ Err fault → values_after_styles stack true before values d ≡ Ok set → (styles_trace stack attr values (before ++ style ∷ others) d).end ≡ style_end style fault
at_style stack attr values set [] style others d fault refused applied = first_end stack attr values style others d (Err fault) refused
at_style stack attr values set (first ∷ before) style others d fault refused applied =
    past stack attr values set first before (before ++ style ∷ others) d (style_end style fault) (bag_of stack first.0 d) refl (λ v. at_style stack attr v set before style others d fault refused) applied

in_theme : (stack : List LayerOf) (attr : ℕ) (values set : AttributeValues) (styles : List ResId) (d : List ℕ) → values_after_styles stack true styles values d ≡ Ok set
    → (styles_trace stack attr values styles d).end ≡ attribute_of stack set attr d
unfolding styles_trace values_after_styles
in_theme stack attr values set [] d applied =
    let same : values ≡ set = cc in
    slot_end stack (slot_of values attributes_followed attr) d ∙ ap (λ (v : AttributeValues). attribute_of stack v attr d) same
in_theme stack attr values set (style ∷ styles) d applied =
    past stack attr values set style styles styles d (attribute_of stack set attr d) (bag_of stack style.0 d) refl (λ v. in_theme stack attr v set styles d) applied

only_end : (stack : List LayerOf) (attr : ℕ) (values : AttributeValues) (styles : List ResId) (d : List ℕ) (end : End) → EndsUnder stack attr values styles d end → end ≡ (styles_trace stack attr values styles d).end
only_end stack attr values styles d end ends = elim ends [
  | inl stops ↦ stops.is_end
      ∙ sym (at_style stack attr values stops.applied.0 stops.before stops.style stops.others d stops.fault stops.refused stops.applied.1)
      ∙ ap (λ (all : List ResId). (styles_trace stack attr values all d).end) (sym stops.stands)
  | inr here ↦ here.is_end ∙ sym (in_theme stack attr values here.set styles d here.applied)
]

pub the_end_under : (stack : List LayerOf) (attr : ℕ) (values : AttributeValues) (styles : List ResId) (d : List ℕ) → IsTheEndUnder stack attr values styles d (styles_trace stack attr values styles d).end
the_end_under stack attr values styles d = record { ends = ends_under stack attr values styles d; only = λ other ends. only_end stack attr values styles d other ends }

-- the same of what a call returns
pub the_end_under_ok : {E : Type 0} (stack : List LayerOf) (attr : ℕ) (values : AttributeValues) (styles : List ResId) (d : List ℕ) (result : Result End E) (meant : End) → meant ≡ (styles_trace stack attr values styles d).end
    → IfOk result (λ end. end ≡ meant) → IfOk result (IsTheEndUnder stack attr values styles d)
the_end_under_ok stack attr values styles d (Ok end) meant same is = subst (λ (x : End). IsTheEndUnder stack attr values styles d x) (sym (is ∙ same)) (the_end_under stack attr values styles d)
the_end_under_ok stack attr values styles d (Err error) meant same is = tt
