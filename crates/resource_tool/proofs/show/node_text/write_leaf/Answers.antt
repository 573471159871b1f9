use Rattle.std.proofs.lemmas.Result.{on_ok_weaker}
use Rattle.std.proofs.KnownBytes.{Appends-trans}
use Rattle.resource_tool.proofs.show.node_text.write_leaf.Goals as goal

pub returns : goal.returns
returns g c =
    let to_2 = Appends-trans _ _ _ _ _ c.in_ok-write_all.ensures.bytes c.in_ok-write_layer.ensures in
    let to_3 = Appends-trans _ _ _ _ _ to_2 c.in_ok-write_all-2.ensures.bytes in
    on_ok_weaker c.write_leaf_value.result (λ last. Appends-trans _ _ _ _ _ to_3 last) c.write_leaf_value.ensures
