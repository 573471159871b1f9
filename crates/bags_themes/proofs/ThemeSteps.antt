-- How rows are applied to a theme one by one, and how attributes are followed.
use Rattle.std.proofs.Common.{◌≡◌, ℕ, zero, suc, ◌+◌, ◌-◌, ◌<◌, ◌==◌, ◌||◌, Bool, true, false, cond, List, [], ◌∷◌, ◌++◌, length, take, get_or, Option, Some, refl, sym, ap, subst, ◌∙◌, arith}
use Rattle.std.specs.Map.{lookup}
use Rattle.std.proofs.Math.Path.{fun_ext}
use Rattle.std.proofs.lemmas.Grind.{common_steps}
use Rattle.std.proofs.lemmas.List.{take_more}
use Rattle.std.proofs.lemmas.List.Elements.{filter-append}
use Rattle.reference_resolver.specs.res_value.declared.res_id.ResId.{ResId}
use Rattle.reference_resolver.specs.declared.end.End.TheVariants as ends
use Rattle.bag_rows.specs.declared.bag_row.BagRow.{BagRow}
use Rattle.bag_rows.specs.declared.theme_value.ThemeValue.{ThemeValue}
use Rattle.bags_themes.specs.declared.slot.Slot.{Slot}
use Rattle.bags_themes.specs.declared.slot.Slot.TheVariants.{Ends}
use Rattle.bags_themes.specs.declared.slot.AttributeStep.TheVariants.{Follows, Reaches}
use Rattle.bag_rows.specs.Undefined.{is_undefined_value}
use Rattle.bags_themes.specs.Theme.{ThemeOf, AttributeValues, value_of, is_undefined, values_for, value_after, values_after, AppliesRows}
use Rattle.bags_themes.specs.Attribute.{step_of, slot_of}

-- ---- the value behind one value more, and behind values

-- what is defined stays
value_after-kept : (old : Option ThemeValue) (values : List ThemeValue) → is_undefined old ≡ false → value_after false old values ≡ old
value_after-kept old values defined = rw defined refl

-- what is undefined, or is forced, has the first value before the others
value_after-set : (force : Bool) (old : Option ThemeValue) (set : ThemeValue) (values : List ThemeValue) → (force || is_undefined old) ≡ true
    → value_after force old (set ∷ values) ≡ value_after force (Some set) values
value_after-set true old set values sets = refl
value_after-set false old set values sets = by (is_undefined_value set) refl
  where
    by : (undefined : Bool) → is_undefined_value set ≡ undefined → value_after false old (set ∷ values) ≡ value_after false (Some set) values
    by true e = rw (sets, e) refl
    by false e = rw (sets, e) refl

value_after-none : (force : Bool) (old : Option ThemeValue) → value_after force old [] ≡ old
value_after-none true old = refl
value_after-none false old = by (is_undefined old) refl
  where
    by : (undefined : Bool) → is_undefined old ≡ undefined → value_after false old [] ≡ old
    by true e = rw e refl
    by false e = value_after-kept old [] e

value_after-one : (force : Bool) (old : Option ThemeValue) (set : ThemeValue) → (force || is_undefined old) ≡ true → value_after force old (set ∷ []) ≡ Some set
value_after-one force old set sets = value_after-set force old set [] sets ∙ value_after-none force (Some set)

value_after-next : (force : Bool) (old : Option ThemeValue) (set : ThemeValue) (values : List ThemeValue)
    → value_after force old (set ∷ values) ≡ value_after force (value_after force old (set ∷ [])) values
value_after-next true old set values = refl
value_after-next false old set values = by (is_undefined old) refl
  where
    by : (undefined : Bool) → is_undefined old ≡ undefined → value_after false old (set ∷ values) ≡ value_after false (value_after false old (set ∷ [])) values
    by true e = value_after-set false old set values e ∙ ap (λ (o : Option ThemeValue). value_after false o values) (sym (value_after-one false old set e))
    by false e =
        value_after-kept old (set ∷ values) e
        ∙ sym (value_after-kept old values e)
        ∙ ap (λ (o : Option ThemeValue). value_after false o values) (sym (value_after-kept old (set ∷ []) e))

value_after-append : (force : Bool) (old : Option ThemeValue) (first others : List ThemeValue) → value_after force old (first ++ others) ≡ value_after force (value_after force old first) others
value_after-append force old [] others = ap (λ (o : Option ThemeValue). value_after force o others) (sym (value_after-none force old))
value_after-append force old (set ∷ first) others =
    value_after-next force old set (first ++ others)
    ∙ value_after-append force (value_after force old (set ∷ [])) first others
    ∙ ap (λ (o : Option ThemeValue). value_after force o others) (sym (value_after-next force old set first))

-- ---- rows

values_for-append : (attr : ℕ) (first others : List BagRow) → values_for attr (first ++ others) ≡ values_for attr first ++ values_for attr others
values_for-append attr first others = grind (arith, common_steps, filter-append (λ (row : BagRow). row.name.0 == attr) first others)

pub values_after-none : (force : Bool) (values : AttributeValues) → values_after force [] values ≡ values
values_after-none force values = fun_ext (λ attr. value_after-none force (values attr))

pub values_after-append : (force : Bool) (first others : List BagRow) (values : AttributeValues) → values_after force (first ++ others) values ≡ values_after force others (values_after force first values)
values_after-append force first others values = fun_ext (λ attr.
    ap (λ (t : List ThemeValue). value_after force (values attr) t) (values_for-append attr first others)
    ∙ value_after-append force (values attr) (values_for attr first) (values_for attr others))

AppliesRows-append : (force : Bool) (first others : List BagRow) (old mid new : ThemeOf) → AppliesRows force first old mid → AppliesRows force others mid new → AppliesRows force (first ++ others) old new
AppliesRows-append force first others old mid new before behind attr =
    behind attr
    ∙ ap (λ (o : Option ThemeValue). value_after force o (values_for attr others)) (before attr)
    ∙ sym (ap (λ (after : AttributeValues). after attr) (values_after-append force first others (value_of old)))

-- a row more was applied
pub AppliesRows-next : (force : Bool) (rows : List BagRow) (index : ℕ) (row : BagRow) (old mid new : ThemeOf) → index < length rows → row ≡ get_or rows index row
    → AppliesRows force (take index rows) old mid → AppliesRows force (row ∷ []) mid new → AppliesRows force (take (index + 1) rows) old new
AppliesRows-next force rows index row old mid new on here before one =
    let longer : take (index + 1) rows ≡ take index rows ++ row ∷ [] = take_more rows index row on ∙ ap (λ (r : BagRow). take index rows ++ r ∷ []) (sym here) in
    subst (λ (t : List BagRow). AppliesRows force t old new) (sym longer) (AppliesRows-append force (take index rows) (row ∷ []) old mid new before one)

-- a row was set
pub AppliesRows-set : (force : Bool) (row : BagRow) (set : ThemeValue) (old new : ThemeOf) → set ≡ record { layer = row.layer; value = row.value }
    → (force || is_undefined (value_of old row.name.0)) ≡ true
    → ((q : ResId) → lookup (λ key. q.0 == key.0) new ≡ cond (row.name.0 == q.0) (Some set) (lookup (λ key. q.0 == key.0) old))
    → AppliesRows force (row ∷ []) old new
AppliesRows-set force row set old new is sets updates attr = by (row.name.0 == attr) refl
  where
    by : (same : Bool) → (row.name.0 == attr) ≡ same → value_of new attr ≡ value_after force (value_of old attr) (values_for attr (row ∷ []))
    by true e =
        let name : row.name.0 ≡ attr = grind (arith, e) in
        let undefined : (force || is_undefined (value_of old attr)) ≡ true = ap (λ (n : ℕ). force || is_undefined (value_of old n)) (sym name) ∙ sets in
        let found : values_for attr (row ∷ []) ≡ set ∷ [] = rw (e, is) refl in
        updates (record { 0 = attr })
        ∙ rw e refl
        ∙ sym (value_after-one force (value_of old attr) set undefined)
        ∙ ap (λ (t : List ThemeValue). value_after force (value_of old attr) t) (sym found)
    by false e =
        let found : values_for attr (row ∷ []) ≡ [] = rw e refl in
        updates (record { 0 = attr })
        ∙ rw e refl
        ∙ sym (value_after-none force (value_of old attr))
        ∙ ap (λ (t : List ThemeValue). value_after force (value_of old attr) t) (sym found)

-- ---- attributes that are followed

pub slot_of-reaches : (values : AttributeValues) (most attr : ℕ) (slot : Slot) → step_of attr (values attr) ≡ Reaches slot → slot ≡ slot_of values most attr
unfolding slot_of
slot_of-reaches values zero attr slot e = rw e refl
slot_of-reaches values (suc most) attr slot e = rw e refl

pub slot_of-long : (values : AttributeValues) (most attr : ℕ) (target : ResId) → step_of attr (values attr) ≡ Follows target → most ≡ 0 → Ends (ends.TooLong target) ≡ slot_of values most attr
unfolding slot_of
slot_of-long values most attr target e none = rw (none, e) refl

pub slot_of-follows : (values : AttributeValues) (most attr : ℕ) (target : ResId) → step_of attr (values attr) ≡ Follows target → 0 < most → slot_of values (most - 1) target.0 ≡ slot_of values most attr
unfolding slot_of
slot_of-follows values zero attr target e some = absurd (omega arith)
slot_of-follows values (suc most) attr target e some =
    let same : suc most - 1 ≡ most = omega arith in rw (same, e) refl
