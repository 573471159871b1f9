use Rattle.std.proofs.Common.{◌≡◌, List, length, sym, ap, subst, ◌∙◌}
use Rattle.box_answers.specs.NumberSet.{SetOf}
use Rattle.box_answers.specs.Members.{sets_of, IsBox}
use Rattle.config_box.specs.Joined.{HasJoinedSets}
use Rattle.config_box.proofs.JoinSteps.{joined-box}
use Rattle.config_box.proofs.config_box.ConfigBox.joined.Goals as goal

pub invariant_of-result : goal.invariant_of-result
invariant_of-result c =
    let has : HasJoinedSets (sets_of c.as_slice.result.now) (sets_of c.as_slice-2.result.now) (sets_of c.in-Some.sets.items) = rw c.in-Some.is at c.in_ok-sets.ensures.sets in
    let count : length (sets_of c.in-Some.sets.items) ≡ 25 = rw c.in-Some.is at c.in_ok-sets.ensures.count in
    (joined-box _ _ (sets_of c.in-Some.sets.items) count (subst IsBox (sym (ap sets_of c.as_slice.ensures.value)) c.self.invariant) (subst IsBox (sym (ap sets_of c.as_slice-2.ensures.value)) c.other.invariant) has).is_box

pub returns-clause-members : goal.returns-clause-members
returns-clause-members c =
    let first : sets_of c.as_slice.result.now ≡ c.args.self.now = ap sets_of c.as_slice.ensures.value ∙ c.self.view_is in
    let second : sets_of c.as_slice-2.result.now ≡ c.args.other.now = ap sets_of c.as_slice-2.ensures.value ∙ c.other.view_is in
    let has : HasJoinedSets (sets_of c.as_slice.result.now) (sets_of c.as_slice-2.result.now) (sets_of c.in-Some.sets.items) = rw c.in-Some.is at c.in_ok-sets.ensures.sets in
    let count : length (sets_of c.in-Some.sets.items) ≡ 25 = rw c.in-Some.is at c.in_ok-sets.ensures.count in
    joined-box c.args.self.now c.args.other.now (sets_of c.in-Some.sets.items) count (subst IsBox c.self.view_is c.self.invariant) (subst IsBox c.other.view_is c.other.invariant)
    (subst (λ (b : List SetOf). HasJoinedSets c.args.self.now b (sets_of c.in-Some.sets.items)) second
    (subst (λ (a : List SetOf). HasJoinedSets a (sets_of c.as_slice-2.result.now) (sets_of c.in-Some.sets.items)) first has))
