use Rattle.std.proofs.lemmas.Result.{on_ok_weaker}
use Rattle.std.proofs.KnownBytes.{Appends-trans}
use Rattle.resource_tool.proofs.ids.write_id_line.Goals as goal

pub returns : goal.returns
returns g c =
    let to_name = Appends-trans _ _ _ _ _ c.in_ok-write_id.ensures.text c.in_ok-write_its_name.ensures in
    on_ok_weaker c.write_all.result (λ last. Appends-trans _ _ _ _ _ to_name last) c.write_all.ensures.bytes
