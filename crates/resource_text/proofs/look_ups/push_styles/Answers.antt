use Rattle.std.proofs.Common.{◌≡◌, ◌++◌, ℕ, List, [], ◌∷◌, arith, Ok, Err, refl, ap, sym, ◌∙◌, append_assoc}
use Rattle.std.proofs.lemmas.List.{append-nil, drop_more, drop_all}
use Rattle.res_value.specs.declared.res_id.ResId.{ResId}
use Rattle.answer_text.specs.overlay_map.Layer.{LayerOf}
use Rattle.answer_text.specs.bags_themes.declared.bag_fault.BagFault.{BagFault}
use Rattle.answer_text.specs.bag_rows.declared.bag_row.BagRow.{BagRow}
use Rattle.answer_text.specs.bags_themes.Bag.{bag_of}
use Rattle.answer_text.specs.bags_themes.BagIds.{bag_ids}
use Rattle.resource_text.specs.GoalLookUps.{style_ids}
use Rattle.resource_text.proofs.look_ups.push_styles.Goals as goal

-- after the ids of a style come those of the next styles, if it has rows

with-next : (stack : List LayerOf) (d before after whole : List ℕ) (left others : List ResId) (style : ResId) (rows : List BagRow) → before ++ style_ids stack d left ≡ whole → left ≡ style ∷ others
    → after ≡ before ++ bag_ids stack style.0 d → bag_of stack style.0 d ≡ Ok rows → after ++ style_ids stack d others ≡ whole
unfolding style_ids
with-next stack d before after whole left others style rows all split pushed has =
    let next : style_ids stack d left ≡ bag_ids stack style.0 d ++ style_ids stack d others = rw (split, has) refl in
    ap (λ (ids : List ℕ). ids ++ style_ids stack d others) pushed ∙ append_assoc before (bag_ids stack style.0 d) (style_ids stack d others) ∙ ap (λ (ids : List ℕ). before ++ ids) (sym next) ∙ all

with-last : (stack : List LayerOf) (d before after whole : List ℕ) (left others : List ResId) (style : ResId) (fault : BagFault) → before ++ style_ids stack d left ≡ whole → left ≡ style ∷ others
    → after ≡ before ++ bag_ids stack style.0 d → bag_of stack style.0 d ≡ Err fault → after ≡ whole
unfolding style_ids
with-last stack d before after whole left others style fault all split pushed has =
    let next : style_ids stack d left ≡ bag_ids stack style.0 d ++ [] = rw (split, has) refl in
    pushed ∙ ap (λ (ids : List ℕ). before ++ ids) (sym (append-nil (bag_ids stack style.0 d)) ∙ sym next) ∙ all

with-none : (stack : List LayerOf) (d ids whole : List ℕ) (left : List ResId) → ids ++ style_ids stack d left ≡ whole → left ≡ [] → ids ≡ whole
unfolding style_ids
with-none stack d ids whole left all nothing = sym (append-nil ids) ∙ ap (λ (styles : List ResId). ids ++ style_ids stack d styles) (sym nothing) ∙ all

pub returns-in-Err : goal.returns-in-Err
returns-in-Err c = with-last _ _ _ _ _ _ _ _ _ c.loop-style.invariant (drop_more c.args.styles.now c.loop-style.style-index _ (omega arith)) c.in_ok-push_bag.ensures (c.in-Err.ensures c.in_ok-refused-in-Err.ensures)

pub loop-style-preserved : goal.loop-style-preserved
loop-style-preserved c = with-next _ _ _ _ _ _ _ _ _ c.loop-style.invariant (drop_more c.args.styles.now c.loop-style.style-index _ (omega arith)) c.in_ok-push_bag.ensures c.in-Ok.ensures

pub returns : goal.returns
returns c = with-none _ _ _ _ _ c.loop-style.invariant (drop_all c.loop-style.style-index c.args.styles.now c.loop-style-test.false)
