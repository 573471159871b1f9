use Rattle.std.proofs.lemmas.Result.{on_ok_weaker}
use Rattle.std.proofs.KnownBytes.{Appends-trans}
use Rattle.command_base.specs.MapText.{unmapped_line}
use Rattle.command_base.proofs.map_text.write_unmapped.Goals as goal

pub returns : goal.returns
unfolding unmapped_line
returns g c =
    let to_word = Appends-trans _ _ _ _ _ c.in_ok-write_all.ensures.bytes c.in_ok-write_all-2.ensures.bytes in
    let to_row = Appends-trans _ _ _ _ _ to_word c.in_ok-write_named.ensures in
    on_ok_weaker c.write_all-3.result (λ last. Appends-trans _ _ _ _ _ to_row last) c.write_all-3.ensures.bytes
