use Rattle.std.proofs.Common.{◌≡◌, ◌⊎◌, inl, inr, true, false, List, sym, ◌∙◌, ap, subst}
use Rattle.box_answers.specs.NumberSet.{SetOf, set_of, IsProper}
use Rattle.box_answers.specs.Members.{sets_of, set_at, IsMember, IsBox}
use Rattle.box_answers.specs.MemberAnswers.{AllAnswer}
use Rattle.box_answers.specs.config_record.declared.coord.Coord.{Coord}
use Rattle.config_box.specs.Tests.{test_of, coord_of, answers, has_wrong_kind}
use Rattle.config_box.specs.HalfSets.{IsAskable, NoneAnswers, IsHalfSet}
use Rattle.config_box.specs.Halves.{IsHalf, KeepsAnswers}
use Rattle.config_box.proofs.Lent.{lent-box, lent-count}
use Rattle.config_box.proofs.HalfSteps.{askable, all-answer_yes, all-answer_no}
use Rattle.config_box.proofs.config_box.ConfigBox.split.Goals as goal

pub half_of-requires-clause-askable : goal.half_of-requires-clause-askable
half_of-requires-clause-askable c =
    subst (λ (s : SetOf). IsAskable s (test_of c.args.test.now))
    (ap (λ (k : Coord). set_at (sets_of c.as_slice-sets.result.now) k) (sym c.coord.ensures) ∙ sym c.set_at-set.ensures)
    (askable (sets_of c.as_slice-sets.result.now) (test_of c.args.test.now) (sym c.has_wrong_kind.ensures ∙ c.if-has_wrong_kind.false))

pub half_of-requires-2-clause-askable : goal.half_of-requires-2-clause-askable
half_of-requires-2-clause-askable c =
    subst (λ (s : SetOf). IsAskable s (test_of c.args.test.now))
    (ap (λ (k : Coord). set_at (sets_of c.as_slice-sets.result.now) k) (sym c.coord.ensures) ∙ sym c.set_at-set.ensures)
    (askable (sets_of c.as_slice-sets.result.now) (test_of c.args.test.now) (sym c.has_wrong_kind.ensures ∙ c.if-has_wrong_kind.false))

pub returns-in_default-2-clause-halves : goal.returns-in_default-2-clause-halves
returns-in_default-2-clause-halves c =
    let sets : List SetOf = sets_of c.as_slice-sets.result.now in
    let test = test_of c.args.test.now in
    let whole : sets ≡ c.args.self.now = ap sets_of c.as_slice-sets.ensures.value ∙ c.self.view_is in
    let at : set_of c.set_at-set.result.now ≡ set_at sets (coord_of test) = c.set_at-set.ensures ∙ ap (λ (k : Coord). set_at sets k) c.coord.ensures in
    let none : NoneAnswers (set_of c.set_at-set.result.now) test false = rw c.in_default-2.is at c.in_ok-no.ensures in
    subst (λ (b : List SetOf). (has_wrong_kind b test ≡ false) × (AllAnswer (IsMember b) (answers test) true ⊎ AllAnswer (IsMember b) (answers test) false)) whole (
      sym c.has_wrong_kind.ensures ∙ c.if-has_wrong_kind.false,
      inl (all-answer_yes sets test (subst (λ (s : SetOf). NoneAnswers s test false) at none)),
    )

pub returns-clause-answers : goal.returns-clause-answers
returns-clause-answers c =
    let whole : sets_of c.as_slice-sets.result.now ≡ c.args.self.now = ap sets_of c.as_slice-sets.ensures.value ∙ c.self.view_is in
    subst (λ (b : List SetOf). KeepsAnswers b c.in_ok-yes-2.yes × KeepsAnswers b c.in_ok-no-2.no) whole (
      λ asks answer all d member. all d ((c.in_ok-yes-2.ensures.members d).0 member).member,
      λ asks answer all d member. all d ((c.in_ok-no-2.ensures.members d).0 member).member,
    )

pub set_at-set-requires : goal.set_at-set-requires
set_at-set-requires c =
    lent-count c.as_slice-sets.result.now c.self.inside.sets.items c.as_slice-sets.ensures.value c.self.invariant

pub half_of-requires-clause-proper : goal.half_of-requires-clause-proper
half_of-requires-clause-proper c =
    let box : IsBox (sets_of c.as_slice-sets.result.now) = lent-box c.as_slice-sets.result.now c.self.inside.sets.items c.as_slice-sets.ensures.value c.self.invariant in
    subst IsProper (sym c.set_at-set.ensures) (box.each c.coord.result).proper

pub half_of-requires-2-clause-proper : goal.half_of-requires-2-clause-proper
half_of-requires-2-clause-proper c =
    let box : IsBox (sets_of c.as_slice-sets.result.now) = lent-box c.as_slice-sets.result.now c.self.inside.sets.items c.as_slice-sets.ensures.value c.self.invariant in
    subst IsProper (sym c.set_at-set.ensures) (box.each c.coord.result).proper

pub half_box-requires-clause-sets : goal.half_box-requires-clause-sets
half_box-requires-clause-sets c = lent-box c.as_slice-sets.result.now c.self.inside.sets.items c.as_slice-sets.ensures.value c.self.invariant

pub half_box-requires-2-clause-sets : goal.half_box-requires-2-clause-sets
half_box-requires-2-clause-sets c = lent-box c.as_slice-sets.result.now c.self.inside.sets.items c.as_slice-sets.ensures.value c.self.invariant

pub half_box-requires-clause-half : goal.half_box-requires-clause-half
half_box-requires-clause-half c =
    let at : set_of c.set_at-set.result.now ≡ set_at (sets_of c.as_slice-sets.result.now) (coord_of (test_of c.args.test.now)) =
    c.set_at-set.ensures ∙ ap (λ (k : Coord). set_at (sets_of c.as_slice-sets.result.now) k) c.coord.ensures in
    subst (λ (s : SetOf). IsHalfSet s (test_of c.args.test.now) true (set_of c.in-Some.yes)) at (rw c.in-Some.is at c.in_ok-yes.ensures)

pub half_box-requires-2-clause-half : goal.half_box-requires-2-clause-half
half_box-requires-2-clause-half c =
    let at : set_of c.set_at-set.result.now ≡ set_at (sets_of c.as_slice-sets.result.now) (coord_of (test_of c.args.test.now)) =
    c.set_at-set.ensures ∙ ap (λ (k : Coord). set_at (sets_of c.as_slice-sets.result.now) k) c.coord.ensures in
    subst (λ (s : SetOf). IsHalfSet s (test_of c.args.test.now) false (set_of c.in-Some-2.no)) at (rw c.in-Some-2.is at c.in_ok-no.ensures)

pub returns-in_default-clause-halves : goal.returns-in_default-clause-halves
returns-in_default-clause-halves c =
    let sets : List SetOf = sets_of c.as_slice-sets.result.now in
    let test = test_of c.args.test.now in
    let whole : sets ≡ c.args.self.now = ap sets_of c.as_slice-sets.ensures.value ∙ c.self.view_is in
    let at : set_of c.set_at-set.result.now ≡ set_at sets (coord_of test) = c.set_at-set.ensures ∙ ap (λ (k : Coord). set_at sets k) c.coord.ensures in
    let none : NoneAnswers (set_of c.set_at-set.result.now) test true = rw c.in_default.is at c.in_ok-yes.ensures in
    subst (λ (b : List SetOf). (has_wrong_kind b test ≡ false) × (AllAnswer (IsMember b) (answers test) true ⊎ AllAnswer (IsMember b) (answers test) false)) whole (
      sym c.has_wrong_kind.ensures ∙ c.if-has_wrong_kind.false,
      inr (all-answer_no sets test (subst (λ (s : SetOf). NoneAnswers s test true) at none)),
    )

pub returns-clause-halves : goal.returns-clause-halves
returns-clause-halves c =
    let test = test_of c.args.test.now in
    let whole : sets_of c.as_slice-sets.result.now ≡ c.args.self.now = ap sets_of c.as_slice-sets.ensures.value ∙ c.self.view_is in
    subst (λ (b : List SetOf). (has_wrong_kind b test ≡ false) × IsHalf b test true c.in_ok-yes-2.yes × IsHalf b test false c.in_ok-no-2.no) whole (
      sym c.has_wrong_kind.ensures ∙ c.if-has_wrong_kind.false,
      c.in_ok-yes-2.ensures,
      c.in_ok-no-2.ensures,
    )
