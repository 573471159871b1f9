use Rattle.std.proofs.Common.{Some, arith, ap, ◌∙◌}
use Rattle.std.proofs.lemmas.List.{take_all}
use Rattle.std.specs.Option.{option_map}
use Rattle.stack_diff.proofs.LayerSteps.{layer-there, next-layer}
use Rattle.stack_diff.proofs.layer_rows.LayerRows.all.Goals as goal

pub loop-index-preserved : goal.loop-index-preserved
loop-index-preserved c =
    next-layer c.args.stack.now c.loop-index.index c.loop-index.layers.items c.push.new.self.items c.in_ok-layer.layer c.in_ok-push.ensures.items c.loop-index.invariant
    (ap (λ t. Some t.now) c.in_ok-layer.ensures.table ∙ c.in-Some.ensures) (ap (option_map (λ m. m.now)) c.in_ok-layer.ensures.map ∙ c.layer_map.ensures)

pub unreachable-requires : goal.unreachable-requires
unreachable-requires c =
    let within = c.loop-index-test.true in
    let count = c.len-index-end.ensures.value in
    layer-there c.args.stack.now c.loop-index.index (omega (arith, within, count)) c.in_default.ensures

pub returns : goal.returns
returns c =
    let past = c.loop-index-test.false in
    let count = c.len-index-end.ensures.value in
    c.loop-index.invariant ∙ take_all c.loop-index.index c.args.stack.now (omega (arith, past, count))
