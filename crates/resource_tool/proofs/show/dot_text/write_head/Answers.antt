use Rattle.std.proofs.lemmas.Result.{on_ok_weaker}
use Rattle.std.proofs.KnownBytes.{Appends-trans}
use Rattle.resource_tool.specs.DotText.{head_with}
use Rattle.resource_tool.proofs.show.dot_text.write_head.Goals as goal

pub returns : goal.returns
unfolding head_with
returns g c =
    let to_label = Appends-trans _ _ _ _ _ c.in_ok-write_all.ensures.bytes c.in_ok-write_cut_label.ensures in
    on_ok_weaker c.write_all-2.result (λ last. Appends-trans _ _ _ _ _ to_label last) c.write_all-2.ensures.bytes
