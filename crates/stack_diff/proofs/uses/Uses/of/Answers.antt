use Rattle.std.proofs.Common.{Bor, List, Option, Some, map, sym, subst}
use Rattle.std.proofs.lemmas.List.{take_all}
use Rattle.std.proofs.lemmas.Result.{IfOk-weaker}
use Rattle.std.specs.Option.{option_map}
use Rattle.reference_resolver.specs.res_value.declared.res_id.ResId.{ResId}
use Rattle.stack_diff.specs.LayersSeen.{layers_of}
use Rattle.stack_diff.specs.Raising.{cells_of, IsBegun}
use Rattle.stack_diff.proofs.AskSteps.{begun-all, begun-none, asked-more}
use Rattle.stack_diff.proofs.uses.Uses.of.Goals as goal

pub returns-in_default : goal.returns-in_default
returns-in_default c =
    rw c.in_default.is (IfOk-weaker c.all_told.result _ _ (λ uses are. begun-all (layers_of c.args.layers.now) (cells_of uses) are) c.all_told.ensures)

pub loop-id-init : goal.loop-id-init
loop-id-init c = begun-none (layers_of c.args.layers.now) (cells_of c.in_ok-uses.uses) c.in_ok-uses.ensures

pub loop-id-preserved : goal.loop-id-preserved
loop-id-preserved c =
    asked-more (layers_of c.args.layers.now) c.in-Some.ids.now c.loop-id.id-index _ c.deref.result.now c.in_ok-rows.rows.items (cells_of c.loop-id.uses) (cells_of c.ask_each.new.self) c.loop-id-test.true c.loop-id.invariant
    c.deref.ensures.value c.in_ok-rows.ensures c.ask_each.ensures

pub returns : goal.returns
returns c =
    let layers = layers_of c.args.layers.now in
    let ids = c.in-Some.ids.now in
    subst (λ (asked : Option (Bor (List ResId))). IsBegun layers (option_map (λ ids. map (λ id. id.0) ids.now) asked) (cells_of c.loop-id.uses)) (sym c.in-Some.is)
    (subst (λ (some : List ResId). IsBegun layers (Some (map (λ id. id.0) some)) (cells_of c.loop-id.uses)) (take_all c.loop-id.id-index ids c.loop-id-test.false) c.loop-id.invariant)
