use Rattle.std.proofs.Common.{rules, ◌≡◌, ℕ, ◌<◌, ◌^◌, List, Some, ap, ◌∙◌, length, get_or, slice_index, inl, inr, subst}
use Rattle.std.proofs.lemmas.List.Elements.{Contains-get_or}
use Rattle.std.specs.List.{Contains}
use Rattle.box_answers.specs.NumberSet.{NumbersOf}
use Rattle.config_box.specs.Joined.{IsOneSet, MakeOneSet}
use Rattle.config_box.proofs.ChoiceSteps.{each-by_index, each-contained}
use Rattle.config_box.proofs.JoinSteps.{numbers-joined}
use Rattle.config_box.proofs.joined_sets.joined_choice.Goals as goal

pub returns-in_default : goal.returns-in_default
returns-in_default c one =
    let first = c.as_slice.ensures.value ∙ c.in_ok-numbers.ensures in
    let second = c.as_slice-2.ensures.value ∙ c.in_ok-others.ensures in
    let never : MakeOneSet (NumbersOf c.as_slice.result.now) (NumbersOf c.as_slice-2.result.now) → ⊥ = rw c.in_default.is at c.in_ok-joined.ensures in
    never (rw (first, second) one)

pub narrowed-requires : goal.narrowed-requires
narrowed-requires c = λ k q.
    let first = c.as_slice.ensures.value ∙ c.in_ok-numbers.ensures in
    let second = c.as_slice-2.ensures.value ∙ c.in_ok-others.ensures in
    let joined = c.in-Some.joined.items in
    let one : IsOneSet (NumbersOf c.as_slice.result.now) (NumbersOf c.as_slice-2.result.now) (Some (NumbersOf joined)) = rw c.in-Some.is at c.in_ok-joined.ensures in
    let on : k < length joined = rw c.as_slice-3.ensures.value at q in
    let fits : (k : ℕ) → k < length c.args.numbers.now → slice_index c.args.numbers.now k < 2 ^ 32 = search rules in
    let others_fit : (k : ℕ) → k < length c.args.others.now → slice_index c.args.others.now k < 2 ^ 32 = search rules in
    rw c.as_slice-3.ensures.value (elim ((one.1.numbers (get_or joined k 0)).0 (Contains-get_or joined k 0 on)) [
      | inl is ↦ each-contained (λ (n : ℕ). n < 2 ^ 32) _ c.args.numbers.now (each-by_index (λ (n : ℕ). n < 2 ^ 32) c.args.numbers.now fits) (subst (λ (l : List ℕ). Contains l (get_or joined k 0)) first is)
      | inr is ↦ each-contained (λ (n : ℕ). n < 2 ^ 32) _ c.args.others.now (each-by_index (λ (n : ℕ). n < 2 ^ 32) c.args.others.now others_fit) (subst (λ (l : List ℕ). Contains l (get_or joined k 0)) second is)
    ])

pub returns : goal.returns
returns c =
    let first = c.as_slice.ensures.value ∙ c.in_ok-numbers.ensures in
    let second = c.as_slice-2.ensures.value ∙ c.in_ok-others.ensures in
    let third = ap (λ v. v.items) c.in_ok-new.ensures.ok ∙ c.in_ok-joined-2.ensures ∙ c.as_slice-3.ensures.value in
    let one : IsOneSet (NumbersOf c.as_slice.result.now) (NumbersOf c.as_slice-2.result.now) (Some (NumbersOf c.in-Some.joined.items)) = rw c.in-Some.is at c.in_ok-joined.ensures in
    numbers-joined c.args.numbers.now c.args.others.now c.in_ok-new.field-0.value.items _ _ _ first second third one
