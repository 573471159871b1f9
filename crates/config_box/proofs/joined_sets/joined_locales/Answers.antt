use Rattle.std.proofs.Common.{Some, ap, ◌∙◌}
use Rattle.box_answers.specs.NumberSet.{NumbersOf, locale_numbers}
use Rattle.config_box.specs.Joined.{IsOneSet, MakeOneSet}
use Rattle.config_box.proofs.JoinSteps.{locales-joined}
use Rattle.config_box.proofs.joined_sets.joined_locales.Goals as goal

pub returns-in_default : goal.returns-in_default
returns-in_default c one =
    let first = c.as_slice.ensures.value ∙ c.in_ok-numbers.ensures in
    let second = c.as_slice-2.ensures.value ∙ c.in_ok-other_numbers.ensures in
    let never : MakeOneSet (NumbersOf c.as_slice.result.now) (NumbersOf c.as_slice-2.result.now) → ⊥ = rw c.in_default.is at c.in_ok-joined.ensures in
    never (rw (first, second) one)

pub returns : goal.returns
returns c =
    let first = c.as_slice.ensures.value ∙ c.in_ok-numbers.ensures in
    let second = c.as_slice-2.ensures.value ∙ c.in_ok-other_numbers.ensures in
    let third = ap (λ v. locale_numbers v.items) c.in_ok-new.ensures.ok ∙ c.in_ok-joined-2.ensures ∙ c.as_slice-3.ensures.value in
    let one : IsOneSet (NumbersOf c.as_slice.result.now) (NumbersOf c.as_slice-2.result.now) (Some (NumbersOf c.in-Some.joined.items)) = rw c.in-Some.is at c.in_ok-joined.ensures in
    locales-joined (locale_numbers c.args.locales.now) (locale_numbers c.args.others.now) (locale_numbers c.in_ok-new.field-0.value.items) _ _ _ first second third one
