use Rattle.std.proofs.Common.{ℕ, List, [], ◌∷◌, ◌++◌, take, sym, ap, ◌∙◌}
use Rattle.std.proofs.lemmas.List.{take_more, take_all, map-append}
use Rattle.box_answers.specs.declared.number_set.NumberSet.{NumberSet}
use Rattle.box_answers.specs.NumberSet.{SetOf, set_of}
use Rattle.box_answers.specs.Members.{sets_of}
use Rattle.config_box.proofs.split.shared_sets.Goals as goal

pub loop-set-preserved : goal.loop-set-preserved
loop-set-preserved c =
    let place : ℕ = c.loop-set.set-index in
    let sets : List NumberSet = c.args.sets.now in
    let item : NumberSet = c.set-item.result in
    ap sets_of c.in_ok-push.ensures.items
    ∙ map-append set_of c.loop-set.copy.items (c.in_ok-shared.field-0 ∷ [])
    ∙ ap (λ (s : SetOf). sets_of c.loop-set.copy.items ++ s ∷ []) c.in_ok-shared.ensures
    ∙ ap (λ (front : List SetOf). front ++ set_of item ∷ []) c.loop-set.invariant
    ∙ sym (map-append set_of (take place sets) (item ∷ []))
    ∙ ap (λ (s : NumberSet). sets_of (take place sets ++ s ∷ [])) c.set-item.is
    ∙ ap sets_of (sym (take_more sets place item c.loop-set-test.true))

pub returns : goal.returns
returns c = c.loop-set.invariant ∙ ap sets_of (take_all c.loop-set.set-index c.args.sets.now c.loop-set-test.false)
