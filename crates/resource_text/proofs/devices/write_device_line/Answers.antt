use Rattle.std.proofs.KnownBytes.{Appends-trans}
use Rattle.std.proofs.lemmas.Result.{on_ok_weaker}
use Rattle.resource_text.specs.DeviceNotation.{device_line}
use Rattle.resource_text.proofs.devices.write_device_line.Goals as goal

pub returns : goal.returns
unfolding device_line
returns g c =
    let words = rw (c.deref.ensures.value, c.in_ok-words.ensures, c.stack.ensures) at c.in_ok-write_or_any.ensures in
    let to_words = Appends-trans _ _ _ _ _ c.in_ok-write_all.ensures.bytes words in
    let to_colon = Appends-trans _ _ _ _ _ to_words c.in_ok-write_all-2.ensures.bytes in
    let to_end = Appends-trans _ _ _ _ _ to_colon c.in_ok-write_goal_end.ensures in
    on_ok_weaker c.write_all-3.result (λ last. Appends-trans _ _ _ _ _ to_end last) c.write_all-3.ensures.bytes
