-- What is called the same in a stack is one id.
use Rattle.std.proofs.Common.{◌≡◌, ℕ, Bool, true, false, cond, List, Option, Some, None, refl, sym, ap, subst, ◌∙◌}
use Rattle.overlay_map.specs.Layer.{LayerOf}
use Rattle.overlay_map.specs.res_value.declared.res_id.ResId.{ResId}
use Rattle.names.specs.Label.{LabelOf, ById}
use Rattle.names.specs.StackLabels.{first_with, names_in, is_id}
use Rattle.names.specs.IdLabel.{first_name, own_label, label_of_id}
use Rattle.names.specs.Laws.{LabelTellsId}
use Rattle.names.proofs.SideBySide.{is-found, none-named}

-- a label stands for this id, or is the id and stands for none
data Tells (layers : List LayerOf) (id : ResId) (label : LabelOf) : Type 0 where
  Stands : first_with (names_in layers) label ≡ Some id → Tells layers id label
  Itself : label ≡ ById id → Tells layers id label

tells : (layers : List LayerOf) (id : ResId) (name : Option LabelOf) → Tells layers id (own_label layers id name)
tells layers id None = Itself refl
tells layers id (Some name) = by (is_id id (first_with (names_in layers) name)) refl
  where
    by : (own : Bool) → is_id id (first_with (names_in layers) name) ≡ own → Tells layers id (cond own name (ById id))
    by true e = Stands (is-found id (first_with (names_in layers) name) e)
    by false e = Itself refl

one_id : (layers : List LayerOf) (id other : ResId) (label : LabelOf) → Tells layers id label → Tells layers other label → id ≡ other
one_id layers id other label (Stands p) (Stands q) = let same : Some id ≡ Some other = sym p ∙ q in cc
one_id layers id other label (Stands p) (Itself q) =
    absurd (let none : Some id ≡ None = sym p ∙ ap (first_with (names_in layers)) q ∙ none-named layers other in cc)
one_id layers id other label (Itself p) (Stands q) =
    absurd (let none : Some other ≡ None = sym q ∙ ap (first_with (names_in layers)) p ∙ none-named layers id in cc)
one_id layers id other label (Itself p) (Itself q) = let same : ById id ≡ ById other = sym p ∙ q in cc

pub label_tells_id : LabelTellsId
unfolding label_of_id
label_tells_id layers id other same =
    let told : (n : ℕ) → Tells layers (record { 0 = n }) (label_of_id layers n) = λ n. tells layers (record { 0 = n }) (first_name layers n) in
    let one = one_id layers (record { 0 = id }) (record { 0 = other }) (label_of_id layers id) (told id) (subst (Tells layers (record { 0 = other })) (sym same) (told other)) in
    ap (λ (r : ResId). r.0) one
