use Rattle.std.proofs.Common.{◌+◌, ◌++◌, List, map, drop, Result, Ok, sym, ap, ◌∙◌}
use Rattle.std.proofs.lemmas.List.{drop_more, drop_all}
use Rattle.std.specs.List.{flat_map}
use Rattle.std.proofs.lemmas.Result.{err_from_is_err_and}
use Rattle.contract_words.specs.Sequences.{with_front, joined_each}
use Rattle.contract_words.proofs.SequenceSteps.{ReadsAllBut-next, ReadsAllBut-stops, ReadsAllBut-end, with_front_nil}
use Rattle.res_value.specs.declared.res_id.ResId.{ResId}
use Rattle.names.specs.declared.named_set.NamedSet.{NamedSet}
use Rattle.names.specs.NamedSet.{named_set_of}
use Rattle.names.specs.AskedNames.{names_in_set}
use Rattle.names.specs.NameFault.{NameFaultOf}
use Rattle.names.specs.NamedIds.{ids_of_set, ids_named}
use Rattle.names.proofs.TellsSteps.{Tells-first}
use Rattle.names.proofs.named_ids.ids_found.Goals as goal

pub loop-set-init : goal.loop-set-init
unfolding ids_named
loop-set-init c = λ layers told.
    let meant = joined_each (ids_of_set layers) (map named_set_of c.args.sets.now) in (
      told,
      record { others = ap (λ (ids : List ResId). with_front ids meant) c.new-all.ensures.items ∙ with_front_nil meant },
    )

pub loop-set-preserved : goal.loop-set-preserved
loop-set-preserved c = λ layers told.
    let so_far = c.loop-set.invariant layers told in
    let all = c.loop-set.all.items in
    let sets = c.args.sets.now in
    let place = c.loop-set.set-index in
    let behind = flat_map (λ (set : NamedSet). names_in_set (named_set_of set)) (drop (place + 1) sets) in
    let wrapped : List ResId → Result (List ResId) NameFaultOf = λ ids. Ok ids in
    let split = drop_more sets place _ c.loop-set-test.true in
    let first = Tells-first (λ (set : NamedSet). names_in_set (named_set_of set)) layers _ _ _ _ so_far.0 split in
    let put = c.in_ok-extend_from_slice.ensures.items ∙ ap (λ (ids : List ResId). all ++ ids) (c.deref-in-loop-set.ensures.value ∙ ap (λ ids. ids.items) c.deref.ensures) in (
      (c.in_ok-ids.ensures layers behind first).0,
      ReadsAllBut-next (ids_of_set layers) all _ _ _ _ _ so_far.1 (ap (λ (left : List NamedSet). map named_set_of left) split)
          (ap (λ (r : Result (List ResId) NameFaultOf). with_front all r) (c.in_ok-ids.ensures layers behind first).1 ∙ ap wrapped (sym put)),
    )

pub returns-in_err-ids : goal.returns-in_err-ids
returns-in_err-ids c = λ layers told.
    let so_far = c.loop-set.invariant layers told in
    let all = c.loop-set.all.items in
    let sets = c.args.sets.now in
    let place = c.loop-set.set-index in
    let behind = flat_map (λ (set : NamedSet). names_in_set (named_set_of set)) (drop (place + 1) sets) in
    let split = drop_more sets place _ c.loop-set-test.true in
    let p = err_from_is_err_and c.from_residual.result c.from_residual.ensures.1 in
    rw (p.1, p.2) (λ other.
    ReadsAllBut-stops (ids_of_set layers) all _ _ _ _ _ so_far.1 (ap (λ (left : List NamedSet). map named_set_of left) split)
    (ap (λ (r : Result (List ResId) NameFaultOf). with_front all r)
    ((c.in_err-ids.ensures layers behind (Tells-first (λ (set : NamedSet). names_in_set (named_set_of set)) layers _ _ _ _ so_far.0 split)).1 other)))

pub returns : goal.returns
returns c = λ layers told.
    ReadsAllBut-end (ids_of_set layers) _ _ _ (c.loop-set.invariant layers told).1 (ap (λ (left : List NamedSet). map named_set_of left) (drop_all c.loop-set.set-index c.args.sets.now c.loop-set-test.false))
