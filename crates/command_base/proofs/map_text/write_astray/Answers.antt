use Rattle.std.proofs.KnownBytes.{Appends-trans}
use Rattle.std.proofs.lemmas.Result.{on_ok_weaker}
use Rattle.command_base.specs.MapText.{astray_line}
use Rattle.command_base.proofs.map_text.write_astray.Goals as goal

pub returns : goal.returns
unfolding astray_line
returns g c =
    let to_word = Appends-trans _ _ _ _ _ c.in_ok-write_all.ensures.bytes c.in_ok-write_all-2.ensures.bytes in
    let to_from = Appends-trans _ _ _ _ _ to_word c.in_ok-write_named.ensures in
    let between = Appends-trans _ _ _ _ _ to_from c.in_ok-write_all-3.ensures.bytes in
    let to_other = Appends-trans _ _ _ _ _ between c.in_ok-write_named-2.ensures in
    on_ok_weaker c.write_all-4.result (λ last. Appends-trans _ _ _ _ _ to_other last) c.write_all-4.ensures.bytes
