use Rattle.std.proofs.Common.{Option, ◌++◌, ◌∷◌, [], ap, ◌∙◌}
use Rattle.overlay_map.specs.res_value.declared.res_id.ResId.{ResId}
use Rattle.names.proofs.Pushed.{map-pushed, map-all}
use Rattle.names.proofs.search.first_of_each.Goals as goal

pub loop-one-preserved : goal.loop-one-preserved
loop-one-preserved c =
    let so_far = c.loop-one.first.items in
    map-pushed _ _ _ _ so_far _ c.loop-one-test.true c.loop-one.invariant (c.in_ok-push.ensures.items ∙ ap (λ (one : Option ResId). so_far ++ one ∷ []) c.first.ensures)

pub returns : goal.returns
returns c = map-all _ _ _ _ c.loop-one.invariant c.loop-one-test.false
