use Rattle.std.proofs.lemmas.Result.{on_ok_weaker}
use Rattle.std.proofs.KnownBytes.{Appends-trans}
use Rattle.command_base.proofs.stop.write_line_of_input.Goals as goal

pub returns : goal.returns
returns g c =
    let to_text = Appends-trans _ _ _ _ _ (rw c.as_bytes.ensures.value at c.in_ok-write_all.ensures.bytes) c.in_ok-write_in_one_line.ensures in
    on_ok_weaker c.write_all-2.result (λ last. Appends-trans _ _ _ _ _ to_text last) c.write_all-2.ensures.bytes
