use Rattle.std.proofs.lemmas.Result.{on_ok_weaker}
use Rattle.std.proofs.KnownBytes.{Appends-trans}
use Rattle.resource_tool.specs.AttrOutput.{attribute_line}
use Rattle.resource_tool.proofs.attr.write_attribute.Goals as goal

pub returns : goal.returns
unfolding attribute_line
returns g c =
    let to_name = Appends-trans _ _ _ _ _ c.in_ok-write_id.ensures.text c.in_ok-write.ensures in
    let to_space = Appends-trans _ _ _ _ _ to_name c.in_ok-write_all.ensures.bytes in
    let to_end = Appends-trans _ _ _ _ _ to_space c.in_ok-write_end_with_name.ensures in
    on_ok_weaker c.write_all-2.result (λ last. Appends-trans _ _ _ _ _ to_end last) c.write_all-2.ensures.bytes
