use Rattle.std.proofs.lemmas.Result.{on_ok_weaker}
use Rattle.std.proofs.KnownBytes.{Appends-trans}
use Rattle.resource_tool.specs.BagOutput.{bag_row_line, id_and_layer}
use Rattle.resource_tool.proofs.bag.write_row.Goals as goal

pub returns : goal.returns
unfolding bag_row_line id_and_layer
returns g c =
    let to_name = Appends-trans _ _ _ _ _ c.in_ok-write_id.ensures.text c.in_ok-write.ensures in
    let to_space = Appends-trans _ _ _ _ _ to_name c.in_ok-write_all.ensures.bytes in
    let to_layer = Appends-trans _ _ _ _ _ to_space c.in_ok-write_layer.ensures in
    let to_value = Appends-trans _ _ _ _ _ (Appends-trans _ _ _ _ _ to_layer c.in_ok-write_all-2.ensures.bytes) c.in_ok-write_value.ensures in
    on_ok_weaker c.write_all-3.result (λ last. Appends-trans _ _ _ _ _ to_value last) c.write_all-3.ensures.bytes
