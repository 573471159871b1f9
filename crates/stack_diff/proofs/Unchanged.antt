-- A resource beside itself.
use Rattle.std.proofs.Common.{◌≡◌, ℕ, arith, Bool, true, false, List, [], Option, None, eqb-true, refl, sym, subst}
use Rattle.std.proofs.lemmas.Bool.{and_parts}
use Rattle.std.proofs.lemmas.List.Elements.{All-nil}
use Rattle.cert_maker.specs.res_value.declared.res_id.ResId.{ResId}
use Rattle.cert_maker.specs.box_answers.NumberSet.{SetOf}
use Rattle.answer_text.specs.ContentAt.{content_at}
use Rattle.answer_text.specs.ReadAlike.{content_read}
use Rattle.answer_text.specs.Content.{ContentOf}
use Rattle.stack_diff.specs.ComparedWith.{with_itself, with_no_other, told_between}
use Rattle.stack_diff.specs.Difference.{DifferenceOf, difference}
use Rattle.stack_diff.specs.declared.compared_with.ComparedWith.{ComparedWith}
use Rattle.stack_diff.specs.declared.compared_with.ComparedWith.TheVariants.{Other, Itself, Nothing}
use Rattle.stack_diff.proofs.DifferenceTells.{difference_tells}
use Rattle.config_box.specs.Kinds.{IsOfKinds}
use Rattle.stack_diff.specs.Stacks.{StacksOf, is_itself, differs, traces}
use Rattle.stack_diff.specs.Changes.{ChangeOf, IsReal}
use Rattle.stack_diff.specs.Fewest.{AreToldShort}
use Rattle.stack_diff.specs.NeededTree.{HasTreeFor, HasTree}

-- what differs nowhere is told in no box
no-boxes : (differs : List ℕ → Option DifferenceOf) (sets : List SetOf) (changes : List ChangeOf) → ((d : List ℕ) → differs d ≡ None) → changes ≡ [] → AreToldShort differs sets changes
no-boxes differs sets changes same none = subst (AreToldShort differs sets) (sym none) (
  record {
    real = All-nil (IsReal differs sets);
    once = λ d member differ. absurd (differ (same d));
    same = λ d member none. same d;
  },
  record {
    apart = λ i j d lt q. absurd (omega arith);
    kinds = All-nil (IsOfKinds sets);
    fewest = λ c alone others other kinds. omega arith;
  },
)

-- beside itself it differs, if it does, as from another
no-other : (compared : ComparedWith) → with_itself compared ≡ true → with_no_other compared ≡ true
no-other Other is = absurd cc
no-other Itself is = refl
no-other Nothing is = absurd cc

as-other : (compared : ComparedWith) → with_itself compared ≡ true → (before after : ContentOf) → difference before after ≡ None → told_between compared before after ≡ None
as-other Other is before after same = same
as-other Itself is before after same = same
as-other Nothing is before after same = absurd cc

module _ (stacks : StacksOf) (sets : List SetOf) (old new : ResId) (itself : is_itself stacks old new ≡ true) where
  pub told-itself : (changes : List ChangeOf) → (with_no_other stacks.compared ≡ true → stacks.new ≡ stacks.old) → changes ≡ [] → AreToldShort (differs stacks old new) sets changes
  told-itself changes one none =
      let parts = and_parts _ _ itself in
      let layers : stacks.old ≡ stacks.new = sym (one (no-other stacks.compared parts.0)) in
      let id : old.0 ≡ new.0 = eqb-true old.0 new.0 parts.1 in
      no-boxes (differs stacks old new) sets changes
      (λ d. let before = content_at stacks.old old.0 d in
      let after = content_at stacks.new new.0 d in
      as-other stacks.compared parts.0 before after ((difference_tells before after).1 (λ i. content_read (content_at (layers i) (id i) d)))) none

  pub tree-itself : (says : ℕ → Type 0) → says 1 → HasTree stacks old new sets says
  tree-itself says one = subst (λ (b : Bool). HasTreeFor b (traces stacks old new) sets says) (sym itself) one

-- beside another one its tree is grown
pub tree-beside : (stacks : StacksOf) (sets : List SetOf) (old new : ResId) (says : ℕ → Type 0) → is_itself stacks old new ≡ false → HasTreeFor false (traces stacks old new) sets says
    → HasTree stacks old new sets says
tree-beside stacks sets old new says not tree = subst (λ (b : Bool). HasTreeFor b (traces stacks old new) sets says) (sym not) tree
