use Rattle.std.proofs.Common.{rules}
use Rattle.std.proofs.KnownBytes.{Appends-trans}
use Rattle.std.proofs.lemmas.Result.{on_ok_weaker}
use Rattle.command_base.specs.MapText.{pair_text}
use Rattle.command_base.proofs.map_text.write_pair.Goals as goal

pub returns : goal.returns
unfolding pair_text
returns g c =
    let to_target = Appends-trans _ _ _ _ _ c.in_ok-write_all-2.ensures.bytes c.in_ok-write_id.ensures.text in
    let to_comma = Appends-trans _ _ _ _ _ to_target c.in_ok-write_all-3.ensures.bytes in
    let to_own = Appends-trans _ _ _ _ _ to_comma c.in_ok-write_id-2.ensures.text in
    (on_ok_weaker c.write_all-4.result (λ last. Appends-trans _ _ _ _ _ c.in_ok-write_all.ensures.bytes (Appends-trans _ _ _ _ _ to_own last)) c.write_all-4.ensures.bytes, search rules)
