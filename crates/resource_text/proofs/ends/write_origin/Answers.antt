use Rattle.std.proofs.KnownBytes.{Appends-trans}
use Rattle.std.proofs.lemmas.Result.{on_ok_weaker}
use Rattle.resource_text.specs.EndNotation.{origin_notation}
use Rattle.resource_text.proofs.ends.write_origin.Goals as goal

pub returns : goal.returns
unfolding origin_notation
returns g c =
    let to_layer = Appends-trans _ _ _ _ _ c.in_ok-write_all.ensures.bytes c.in_ok-write_layer.ensures in
    let to_space = Appends-trans _ _ _ _ _ to_layer c.in_ok-write_all-2.ensures.bytes in
    rw c.in-Some.is (on_ok_weaker c.write_config.result (λ last. Appends-trans _ _ _ _ _ to_space last) c.write_config.ensures.text)
