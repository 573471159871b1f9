-- How the steps of styles are taken one after the other.
use Rattle.std.proofs.Common.{◌≡◌, ℕ, ◌+◌, ◌<◌, Bool, List, [], ◌∷◌, ◌++◌, length, drop, get_or, Option, None, refl, sym, ap, ◌∙◌, append_assoc}
use Rattle.std.proofs.lemmas.List.{drop_more}
use Rattle.res_value.specs.declared.res_id.ResId.{ResId}
use Rattle.answer_text.specs.bag_rows.declared.bag_row.BagRow.{BagRow}
use Rattle.answer_text.specs.overlay_map.Layer.{LayerOf}
use Rattle.resource_text.specs.declared.attribute.Setting.{Setting}
use Rattle.resource_text.specs.declared.attribute.StyleStep.{StyleStep}
use Rattle.resource_text.specs.AttrNotation.{rows_of_style, set_after_rows, setting_of, style_step, style_steps}

pub step-is : (force : Bool) (attr : ℕ) (set : Option BagRow) (style : ResId) (rows : List BagRow) (own : Option BagRow) (setting : Setting) → own ≡ set_after_rows force attr None rows
    → setting ≡ setting_of force set own → record { style = style; own = own; setting = setting } ≡ style_step force attr set style rows
step-is force attr set style rows own setting own_is setting_is = rw (setting_is, own_is) refl

pub style-next : (stack : List LayerOf) (d : List ℕ) (force : Bool) (attr : ℕ) (set after : Option BagRow) (styles : List ResId) (place : ℕ) (e : ResId) (rows : List BagRow) (step : StyleStep)
    (old more all : List StyleStep) → place < length styles → old ++ style_steps stack d force attr set (drop place styles) ≡ all → rows ≡ rows_of_style stack d (get_or styles place e)
    → step ≡ style_step force attr set (get_or styles place e) rows → after ≡ set_after_rows force attr set rows → more ≡ old ++ step ∷ []
    → more ++ style_steps stack d force attr after (drop (place + 1) styles) ≡ all
style-next stack d force attr set after styles place e rows step old more all on before rows_is step_is after_is put =
    let style = get_or styles place e in
    let left = drop (place + 1) styles in
    let first = style_step force attr set style (rows_of_style stack d style) in
    ap (λ (steps : List StyleStep). steps ++ style_steps stack d force attr after left) put
    ∙ append_assoc old (step ∷ []) (style_steps stack d force attr after left)
    ∙ ap (λ (s : StyleStep). old ++ s ∷ style_steps stack d force attr after left) (step_is ∙ ap (style_step force attr set style) rows_is)
    ∙ ap (λ (s : Option BagRow). old ++ first ∷ style_steps stack d force attr s left) (after_is ∙ ap (set_after_rows force attr set) rows_is)
    ∙ ap (λ (ss : List ResId). old ++ style_steps stack d force attr set ss) (sym (drop_more styles place e on))
    ∙ before
