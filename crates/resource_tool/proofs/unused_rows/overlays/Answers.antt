use Rattle.std.proofs.Common.{◌<◌, ◌≤◌, arith, [], ◌∷◌, ◌++◌, ap, length, map, ◌∙◌}
use Rattle.std.proofs.lemmas.List.{take_all}
use Rattle.resource_tool.specs.UnusedOutput.{is_overlay}
use Rattle.resource_tool.proofs.UsedRows.{overlays-next}
use Rattle.resource_tool.proofs.unused_rows.overlays.Goals as goal

pub loop-place-preserved : goal.loop-place-preserved
loop-place-preserved c =
    let on : c.loop-place.place < length c.args.stack.now = omega (arith, c.loop-place-test.true, c.len-place-end.ensures.value) in
    overlays-next (λ m. m.now) c.args.stack.now c.loop-place.place _ _ _ on c.layer_map.ensures c.loop-place.invariant
    (c.in_ok-push.ensures.items ∙ ap (λ some. c.loop-place.overlays.items ++ some ∷ []) c.is_some.ensures)

pub returns : goal.returns
returns c =
    let past : length c.args.stack.now ≤ c.loop-place.place = omega (arith, c.loop-place-test.false, c.len-place-end.ensures.value) in
    c.loop-place.invariant ∙ ap (map is_overlay) (take_all c.loop-place.place c.args.stack.now past)
