-- What was judged of two ids, and is kept.
use Rattle.std.proofs.Common.{◌≡◌, ℕ, ◌<◌, arith, Bool, true, inl, inr, List, Some, None, cond, refl, sym, ap, subst, ◌∙◌}
use Rattle.std.specs.BTreeMap.{BTreeMap, get, is_at, IsEmpty}
use Rattle.std.specs.Map.{lookup}
use Rattle.std.specs.Prelude.{Result, Ok, Err, IfOk}
use Rattle.std.specs.Ordering.{nat_cmp, is_eq}
use Rattle.std.specs.declared.cmp.Ordering.{Ordering}
use Rattle.std.specs.declared.cmp.Ordering.TheVariants.{Less, Equal, Greater}
use Rattle.std.proofs.lemmas.Bool.{cases_Bool}
use Rattle.std.proofs.lemmas.Map.Lookups.{exact_pairs, exact_unsigned}
use Rattle.resource_text.specs.declared.line_form.LineForm.{LineForm}
use Rattle.stack_diff.specs.config_box.box_answers.NumberSet.{SetOf}
use Rattle.stack_diff.specs.names.declared.pair.Sides.{Sides}
use Rattle.stack_diff.specs.names.declared.pair.Sides.TheVariants.{Both}
use Rattle.stack_diff.specs.Stacks.{StacksOf}
use Rattle.stack_diff.specs.cert_maker.res_value.declared.res_id.ResId.{ResId}
use Rattle.resource_tool.specs.declared.judged.Judged.{Judged}
use Rattle.resource_tool.specs.Telling.{IsTold, HasTreeOf}
use Rattle.resource_tool.specs.Judged.{told_of, IsRight, ids_cmp, IsKept}
use Rattle.resource_tool.proofs.Counts.{tree-turned}

pub if-ok : {X E : Type 0} (result : Result X E) (P Q : X → Type 0) → ((x : X) → P x → Q x) → IfOk result P → IfOk result Q
if-ok (Ok x) P Q follows h = follows x h
if-ok (Err e) P Q follows h = h

abbrev pub Kept : Type 0
Kept = BTreeMap (ℕ × ℕ) Judged

tied : (o : Ordering) → is_eq o ≡ true → o ≡ Equal
tied Less e = absurd cc
tied Equal e = refl
tied Greater e = absurd cc

one-id : (ids others : ℕ × ℕ) → is_at (ids_cmp ids) others ≡ true → ids ≡ others
one-id ids others is = exact_pairs nat_cmp nat_cmp exact_unsigned exact_unsigned ids others (tied (ids_cmp ids others) is)

module _ (form : LineForm) (stacks : StacksOf) (sets : List SetOf) where
  -- at first nothing is
  pub kept-none : (kept : Kept) → IsEmpty kept → IsKept form stacks sets kept
  kept-none kept none ids judged found = (let empty : None ≡ Some judged = sym (ap (λ (entries : List ((ℕ × ℕ) × Judged)). lookup (is_at (ids_cmp ids)) entries) none) ∙ found in absurd cc)

  -- one more
  pub kept-more : (kept more : Kept) (old new : ResId) (one : Judged) → IsKept form stacks sets kept → ((ids : ℕ × ℕ) → get ids_cmp more ids ≡ cond (is_at (ids_cmp (old.0, new.0)) ids) (Some one) (get ids_cmp kept ids))
      → IsRight form stacks sets (Both old new) one → IsKept form stacks sets more
  kept-more kept more old new one all update right ids judged found =
      elim (cases_Bool (is_at (ids_cmp (old.0, new.0)) ids)) [
        | inl is ↦ (let same : Some one ≡ Some judged = sym (update ids ∙ ap (λ (here : Bool). cond here (Some one) (get ids_cmp kept ids)) is) ∙ found in
            let it : one ≡ judged = cc in
            subst (λ (pair : ℕ × ℕ). IsRight form stacks sets (Both (record { 0 = pair.0 }) (record { 0 = pair.1 })) judged) (one-id (old.0, new.0) ids is)
            (subst (IsRight form stacks sets (Both old new)) it right))
        | inr not ↦ all ids judged (sym (update ids ∙ ap (λ (here : Bool). cond here (Some one) (get ids_cmp kept ids)) not) ∙ found)
      ]

  -- what is told of other labels
  pub right-shared : (sides : Sides) (judged other : Judged) → told_of other.told ≡ told_of judged.told → other.nodes ≡ judged.nodes → IsRight form stacks sets sides judged → IsRight form stacks sets sides other
  right-shared sides judged other told nodes right = record {
    told = subst (IsTold form stacks sets sides) (sym told) right.told;
    tree = subst (λ (count : ℕ). HasTreeOf stacks sets sides (λ n. n ≡ count)) (sym nodes) right.tree;
  }

  -- or it is above the limit
  pub right-above : (sides : Sides) (judged : Judged) (most : ℕ) → most < judged.nodes → IsRight form stacks sets sides judged → HasTreeOf stacks sets sides (λ nodes. most < nodes)
  right-above sides judged most above right = tree-turned stacks sets sides (λ nodes. nodes ≡ judged.nodes) (λ nodes. most < nodes) (λ nodes same. omega (arith, same, above)) right.tree
