use Rattle.std.proofs.lemmas.Result.{on_ok_weaker}
use Rattle.std.proofs.KnownBytes.{Appends-trans}
use Rattle.resource_tool.specs.OmitOutput.{omitted_text}
use Rattle.resource_tool.proofs.omit.write_left_out.Goals as goal

pub returns : goal.returns
unfolding omitted_text
returns g c =
    let to_line = Appends-trans _ _ _ _ _ c.in_ok-write_all.ensures.bytes c.in_ok-write_line_about.ensures in
    on_ok_weaker c.device_with_end.result (λ last. Appends-trans _ _ _ _ _ to_line last) c.device_with_end.ensures
