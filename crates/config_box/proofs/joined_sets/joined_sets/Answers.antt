use Rattle.std.proofs.Common.{◌≡◌, ℕ, ◌<◌, List, length, set, arith, sym, ap, subst, ◌∙◌}
use Rattle.std.specs.Prelude.{Some}
use Rattle.std.proofs.lemmas.List.{length-map, map-set, length-set}
use Rattle.box_answers.specs.NumberSet.{SetOf, set_of, IsProper}
use Rattle.box_answers.specs.Members.{sets_of}
use Rattle.config_box.specs.Joined.{MakeOneSet, IsOneSet, HasJoinedSets}
use Rattle.config_box.proofs.JoinSteps.{at_place, set-read, proper-at, none-differs, two-differ, no-one_set, joined-at}
use Rattle.config_box.proofs.joined_sets.joined_sets.Goals as goal
use Rattle.config_box.proofs.joined_sets.joined_sets.Goals.{then-place-sets-via-then-place-sets, then-place-sets-via-else-place-sets+then-difference_from-sets}

pub returns-then-place-sets-clause-sets : goal.returns-then-place-sets-clause-sets
returns-then-place-sets-clause-sets c =
    let count = length-map c.args.sets.now set_of in
    let long = c.requires.sets.count in
    elim c.then-place-sets.branch [
      | then-place-sets-via-then-place-sets w ↦ none-differs _ _ c.requires.sets (λ k from q. c.difference_from-place.ensures.same k from (omega arith))
      | then-place-sets-via-else-place-sets+then-difference_from-sets w ↦ two-differ _ _ c.difference_from-place.result w.difference_from.result (omega (arith, w.difference_from.ensures.from)) (omega arith)
          (c.difference_from-place.ensures.differ (omega arith)) (w.difference_from.ensures.differ (omega arith))
    ]

pub joined_set-requires-clause-set : goal.joined_set-requires-clause-set
joined_set-requires-clause-set c =
    let count = length-map c.args.sets.now set_of in
    let long = c.requires.sets.count in
    subst IsProper (sym (set-read c.args.sets.now c.difference_from-place.result c.index-sets-place.result (omega arith) c.index-sets-place.is)) (proper-at (sets_of c.args.sets.now) c.difference_from-place.result c.requires.sets (omega arith))

pub joined_set-requires-clause-other : goal.joined_set-requires-clause-other
joined_set-requires-clause-other c =
    let count = length-map c.args.others.now set_of in
    let long = c.requires.others.count in
    let count_a = length-map c.args.sets.now set_of in
    let long_a = c.requires.sets.count in
    subst IsProper (sym (set-read c.args.others.now c.difference_from-place.result c.index-others-place.result (omega arith) c.index-others-place.is)) (proper-at (sets_of c.args.others.now) c.difference_from-place.result c.requires.others (omega arith))

pub returns-in_default-clause-sets : goal.returns-in_default-clause-sets
returns-in_default-clause-sets c =
    let p : ℕ = c.difference_from-place.result in
    let count = length-map c.args.sets.now set_of in
    let long = c.requires.sets.count in
    let count_b = length-map c.args.others.now set_of in
    let long_b = c.requires.others.count in
    let on : p < length c.args.sets.now = omega (arith, c.difference_from-place.ensures.within, c.if-place-sets.false) in
    let never : MakeOneSet (set_of c.index-sets-place.result) (set_of c.index-others-place.result) → ⊥ = rw c.in_default.is at c.in_ok-set.ensures in
    no-one_set _ _ p (omega arith) (c.difference_from-place.ensures.differ on) (λ one. never
    (rw (set-read c.args.sets.now p c.index-sets-place.result on c.index-sets-place.is, set-read c.args.others.now p c.index-others-place.result (omega arith) c.index-others-place.is) one))

pub returns-clause-sets : goal.returns-clause-sets
returns-clause-sets c =
    let p : ℕ = c.difference_from-place.result in
    let s : SetOf = set_of c.in-Some.set in
    let count = length-map c.args.sets.now set_of in
    let long = c.requires.sets.count in
    let count_b = length-map c.args.others.now set_of in
    let long_b = c.requires.others.count in
    let on : p < length c.args.sets.now = omega (arith, c.difference_from-place.ensures.within, c.if-place-sets.false) in
    let one : IsOneSet (set_of c.index-sets-place.result) (set_of c.index-others-place.result) (Some s) = rw c.in-Some.is at c.in_ok-set.ensures in
    let there : IsOneSet (at_place (sets_of c.args.sets.now) p) (at_place (sets_of c.args.others.now) p) (Some s) =
    rw (sym (set-read c.args.sets.now p c.index-sets-place.result on c.index-sets-place.is), sym (set-read c.args.others.now p c.index-others-place.result (omega arith) c.index-others-place.is)) one in
    subst (HasJoinedSets (sets_of c.args.sets.now) (sets_of c.args.others.now))
    (sym (map-set set_of c.in_ok-joined.joined.items p c.in-Some.set ∙ ap (λ (l : List SetOf). set l p s) c.in_ok-joined.ensures))
    (joined-at (sets_of c.args.sets.now) (sets_of c.args.others.now) p s long (omega arith) c.difference_from-place.ensures.same (λ k from q. c.difference_from.ensures.same k from (omega (arith, c.if-difference_from-sets.false))) there.0 there.1)

pub returns-clause-count : goal.returns-clause-count
returns-clause-count c =
    length-map (set c.in_ok-joined.joined.items c.difference_from-place.result c.in-Some.set) set_of
    ∙ length-set c.in_ok-joined.joined.items c.difference_from-place.result c.in-Some.set
    ∙ sym (length-map c.in_ok-joined.joined.items set_of)
    ∙ ap (λ (sets : List SetOf). length sets) c.in_ok-joined.ensures
    ∙ c.requires.sets.count

pub difference_from-requires-clause-count : goal.difference_from-requires-clause-count
difference_from-requires-clause-count c = sym (length-map c.args.others.now set_of) ∙ c.requires.others.count ∙ sym c.requires.sets.count ∙ length-map c.args.sets.now set_of

pub bounds-others-place : goal.bounds-others-place
bounds-others-place c =
    let same : length c.args.others.now ≡ length c.args.sets.now =
    sym (length-map c.args.others.now set_of) ∙ c.requires.others.count ∙ sym c.requires.sets.count ∙ length-map c.args.sets.now set_of in
    omega (arith, same, c.difference_from-place.ensures.within, c.if-place-sets.false)

pub index_mut-requires : goal.index_mut-requires
index_mut-requires c =
    let same : length c.in_ok-joined.joined.items ≡ length c.args.sets.now =
    sym (length-map c.in_ok-joined.joined.items set_of) ∙ ap (λ (sets : List SetOf). length sets) c.in_ok-joined.ensures ∙ length-map c.args.sets.now set_of in
    omega (arith, same, c.difference_from-place.ensures.within, c.if-place-sets.false)
