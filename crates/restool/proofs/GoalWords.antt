-- The word that is written of a goal is read as that goal.
use Rattle.std.proofs.Common.{◌≡◌, ℕ, ◌≤◌, false, nat_lt, List, [], ◌∷◌, ◌++◌, map, length, Ok, refl, ap, ◌∙◌, arith}
use Rattle.std.specs.List.{All, flat_map, slice_split}
use Rattle.std.proofs.lemmas.List.{append-nil, length-map}
use Rattle.std.proofs.lemmas.List.Elements.{All-head, All-tail}
use Rattle.std.proofs.lemmas.Bool.Decides.{nat_tests}
use Rattle.contract_words.specs.Sequences.{joined, joined_each}
use Rattle.res_value.proofs.IdText.{id_of-id_text}
use Rattle.res_value.specs.ResId.{id_text}
use Rattle.resource_tool.specs.command_base.answer_text.res_value.declared.res_id.ResId.{ResId}
use Rattle.resource_tool.specs.command_base.answer_text.GoalText.{next_style, under_styles, goal_word}
use Rattle.res_value.specs.Goal.{most_styles, is_at_sign, is_comma, under_styles as styles_of_word, goal_word_in, id_in, listed_id, ids_in, goal_of_parts, goal_in}
use Rattle.resource_tool.specs.command_base.names.NamedGoal.{named_goal_in}
use Rattle.restool.specs.GoalWordReadsBack.{IsId, IdWordReadsBack, AttrWordReadsBack}
use Rattle.resource_tool.proofs.names_proofs.Cuts.{any-at, before-at, after-at, split-at, split-none}
use Rattle.restool.proofs.IdTexts.{id_text-lacks}

-- ---- ids

id-back : (id : ResId) → IsId id → id_in (id_text id.0) ≡ Ok id
unfolding id_in
id-back id fits = rw (id_of-id_text id fits) refl

ids-back : (ids : List ResId) → All IsId ids → ids_in (map (λ (id : ResId). id_text id.0) ids) ≡ Ok ids
unfolding ids_in listed_id joined_each joined
ids-back [] fit = refl
ids-back (id ∷ ids) fit = rw (id-back id (All-head IsId id ids fit), ids-back ids (All-tail IsId id ids fit)) refl

-- ---- what is written

-- the texts of styles, with commas between them
commas : ResId → List ResId → List ℕ
commas first others = id_text first.0 ++ flat_map next_style others

split-commas : (first : ResId) (others : List ResId) → slice_split is_comma (commas first others) ≡ map (λ (id : ResId). id_text id.0) (first ∷ others)
unfolding next_style commas
split-commas first [] = rw (append-nil (id_text first.0)) (split-none is_comma (id_text first.0) (id_text-lacks is_comma first.0 refl refl refl))
split-commas first (next ∷ others) =
    split-at is_comma (id_text first.0) (commas next others) 44 (id_text-lacks is_comma first.0 refl refl refl) refl
    ∙ ap (λ (t : List (List ℕ)). id_text first.0 ∷ t) (split-commas next others)

id-written : (id : ResId) → goal_word id.0 [] ≡ id_text id.0
unfolding goal_word under_styles
id-written id = append-nil (id_text id.0)

attr-written : (attr first : ResId) (others : List ResId) → goal_word attr.0 (first ∷ others) ≡ id_text attr.0 ++ 64 ∷ commas first others
unfolding goal_word under_styles commas
attr-written attr first others = refl

-- ---- what is read

pub id-word : IdWordReadsBack
unfolding named_goal_in goal_in goal_word_in goal_of_parts
id-word id fits = rw (id-written id, id_text-lacks is_at_sign id.0 refl refl refl, id-back id fits) refl

few-styles : (first : ResId) (others : List ResId) → length (first ∷ others) ≤ most_styles
    → nat_lt most_styles (length (map (λ (id : ResId). id_text id.0) (first ∷ others))) ≡ false
few-styles first others few = rw (length-map (first ∷ others) (λ (id : ResId). id_text id.0)) (grind (arith, nat_tests, few))

pub attr-word : AttrWordReadsBack
unfolding named_goal_in goal_in goal_word_in styles_of_word goal_of_parts
attr-word attr first others fits fit few =
    let lacks = id_text-lacks is_at_sign attr.0 refl refl refl in
    rw (
      attr-written attr first others,
      any-at is_at_sign (id_text attr.0) (commas first others) 64 refl,
      before-at is_at_sign (id_text attr.0) (commas first others) 64 refl lacks refl,
      after-at is_at_sign (id_text attr.0) (commas first others) 64 refl lacks refl,
      split-commas first others,
      few-styles first others few,
      id-back attr fits,
      ids-back (first ∷ others) fit,
    ) refl
