use Rattle.overlay_map.proofs.FewRows.{few-layers}
use Rattle.overlay_map.proofs.stack.Stack.push_overlay.Goals as goal

pub invariant_of-self-inside-2 : goal.invariant_of-self-inside-2
invariant_of-self-inside-2 c =
    few-layers _ _ _ _ c.indexed_with_room.ensures.same c.push_layer.ensures c.in-Ok.ensures.given.below c.self.inside.few_rows c.in-Ok.ensures.given.few_rows
