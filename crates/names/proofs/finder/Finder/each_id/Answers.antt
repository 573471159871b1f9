use Rattle.std.proofs.Common.{◌+◌, ◌++◌, List, map, drop, sym, subst}
use Rattle.std.proofs.lemmas.List.{drop_more}
use Rattle.std.proofs.lemmas.Result.{err_from_is_err_and}
use Rattle.std.specs.List.{flat_map}
use Rattle.json_input.proofs.EachSteps.{EachAllBut, EachAllBut-next_item, EachAllBut-stops_item, EachAllBut-end_item}
use Rattle.res_value.specs.declared.res_id.ResId.{ResId}
use Rattle.names.specs.declared.named.Named.{Named}
use Rattle.names.specs.Named.{named_of}
use Rattle.names.specs.AskedNames.{names_in}
use Rattle.names.specs.NamedIds.{id_named}
use Rattle.names.proofs.TellsSteps.{Tells-first_of, Tells-behind}
use Rattle.names.proofs.finder.Finder.each_id.Goals as goal

pub loop-named-preserved : goal.loop-named-preserved
loop-named-preserved c = λ layers names told.
    let so_far = c.loop-named.invariant layers names told in
    let all = c.args.all.now in
    let place = c.loop-named.named-index in
    let behind = flat_map (λ (named : Named). names_in (named_of named)) (drop (place + 1) all) ++ names in
    let given = c.in_ok-id.ensures layers behind (Tells-first_of (λ (named : Named). names_in (named_of named)) layers _ _ _ _ names so_far.0 (drop_more all place _ c.loop-named-test.true)) in (
      given.0,
      subst (λ (ids : List ResId). EachAllBut (id_named layers) ids (place + 1) (map named_of all)) (sym c.in_ok-push.ensures.items)
          (EachAllBut-next_item (id_named layers) named_of _ place all _ _ so_far.1 c.loop-named-test.true given.1),
    )

pub returns-in_err-id : goal.returns-in_err-id
returns-in_err-id c = λ layers names told.
    let so_far = c.loop-named.invariant layers names told in
    let all = c.args.all.now in
    let place = c.loop-named.named-index in
    let behind = flat_map (λ (named : Named). names_in (named_of named)) (drop (place + 1) all) ++ names in
    let given = c.in_err-id.ensures layers behind (Tells-first_of (λ (named : Named). names_in (named_of named)) layers _ _ _ _ names so_far.0 (drop_more all place _ c.loop-named-test.true)) in
    let p = err_from_is_err_and c.from_residual-in_err-id.result c.from_residual-in_err-id.ensures.1 in
    rw (p.1, p.2) (tt, λ other. EachAllBut-stops_item (id_named layers) named_of _ place all _ _ so_far.1 c.loop-named-test.true (given.1 other))

pub returns : goal.returns
returns c = λ layers names told. (
  Tells-behind (λ (named : Named). names_in (named_of named)) layers _ c.args.all.now _ names (c.loop-named.invariant layers names told).0 c.loop-named-test.false,
  EachAllBut-end_item (id_named layers) named_of _ _ c.args.all.now (c.loop-named.invariant layers names told).1 c.loop-named-test.false,
)
