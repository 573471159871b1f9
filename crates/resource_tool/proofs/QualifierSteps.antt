-- How numbers are counted one after the other.
use Rattle.std.proofs.Common.{◌≡◌, ℕ, ◌+◌, ◌<◌, ◌≤◌, suc, zero, List, [], ◌∷◌, ◌++◌, refl, sym, ap, ◌∙◌, length, drop, get_or, arith}
use Rattle.std.specs.Prelude.{slice_get, Some, None}
use Rattle.std.specs.List.{flat_map}
use Rattle.std.proofs.lemmas.List.{drop_more, drop_all}
use Rattle.command_base.specs.overlay_map.string_pool.Pool.{empty_pool}
use Rattle.command_base.specs.overlay_map.Layer.{LayerOf}
use Rattle.resource_tool.specs.declared.survey.qualifiers.Qualifiers.{Qualifiers}
use Rattle.resource_tool.specs.LayerNotes.{rows_at}
use Rattle.resource_tool.specs.Counting.{Said, with_number, counted, said_by, said_by_layer}

pub counted-append : (qualifiers : Qualifiers) (first others : List Said) → counted qualifiers (first ++ others) ≡ counted (counted qualifiers first) others
unfolding counted
counted-append qualifiers [] others = refl
counted-append qualifiers (said ∷ first) others = counted-append (with_number qualifiers said) first others

pub counted-none : (qualifiers : Qualifiers) → counted qualifiers [] ≡ qualifiers
unfolding counted
counted-none qualifiers = refl

pub counted-one : (qualifiers : Qualifiers) (said : Said) → counted qualifiers (said ∷ []) ≡ with_number qualifiers said
unfolding counted
counted-one qualifiers said = refl

-- what the first of some items says is counted, then what the others say
pub counted-next : {A : Type 0} (qualifiers mid : Qualifiers) (f : A → List Said) (items others : List A) (item : A) → items ≡ item ∷ others → mid ≡ counted qualifiers (f item)
    → counted qualifiers (flat_map f items) ≡ counted mid (flat_map f others)
counted-next qualifiers mid f items others item split step =
    rw split (counted-append qualifiers (f item) (flat_map f others) ∙ ap (λ (q : Qualifiers). counted q (flat_map f others)) (sym step))

pub counted-end : {A : Type 0} (qualifiers : Qualifiers) (f : A → List Said) (items : List A) → items ≡ [] → counted qualifiers (flat_map f items) ≡ qualifiers
counted-end qualifiers f items nothing = rw nothing (counted-none qualifiers)

-- the same over a slice
pub counted-next_at : {A : Type 0} (qualifiers mid : Qualifiers) (f : A → List Said) (items : List A) (place : ℕ) (d : A) → place < length items
    → mid ≡ counted qualifiers (f (get_or items place d)) → counted qualifiers (flat_map f (drop place items)) ≡ counted mid (flat_map f (drop (place + 1) items))
counted-next_at qualifiers mid f items place d on step =
    counted-next qualifiers mid f (drop place items) (drop (place + 1) items) (get_or items place d) (drop_more items place d on) step

pub counted-end_at : {A : Type 0} (qualifiers : Qualifiers) (f : A → List Said) (items : List A) (place : ℕ) → length items ≤ place
    → counted qualifiers (flat_map f (drop place items)) ≡ qualifiers
counted-end_at qualifiers f items place past = counted-end qualifiers f (drop place items) (drop_all place items past)

pub ruleset counted_steps = (counted-append, counted-none, counted-one, counted-next, counted-end)

-- ---- layers

rows_at-here : (stack : List LayerOf) (place : ℕ) (d : LayerOf) → place < length stack → slice_get stack place ≡ Some (get_or stack place d)
rows_at-here [] place d on = absurd (omega (arith, on))
rows_at-here (layer ∷ stack) zero d on = refl
rows_at-here (layer ∷ stack) (suc place) d on = rows_at-here stack place d (omega (arith, on))

abbrev no_layer : LayerOf
no_layer = record { table = record { packages = []; strings = empty_pool }; map = None }

-- what the layer at a place says is counted, then what those above it say
pub counted-layer : (qualifiers mid : Qualifiers) (stack : List LayerOf) (place : ℕ) → place < length stack
    → mid ≡ counted qualifiers (flat_map said_by (rows_at stack place))
    → counted qualifiers (flat_map said_by_layer (drop place stack)) ≡ counted mid (flat_map said_by_layer (drop (place + 1) stack))
unfolding rows_at
counted-layer qualifiers mid stack place on step =
    counted-next_at qualifiers mid said_by_layer stack place no_layer on
    (rw (rows_at-here stack place no_layer on) at step)
