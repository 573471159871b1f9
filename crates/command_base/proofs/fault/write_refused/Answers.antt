use Rattle.std.proofs.Common.{◌∙◌}
use Rattle.std.proofs.lemmas.Result.{on_ok_weaker}
use Rattle.std.proofs.KnownBytes.{Appends-trans}
use Rattle.command_base.specs.FaultText.{refused_line}
use Rattle.command_base.proofs.fault.write_refused.Goals as goal

pub returns : goal.returns
unfolding refused_line
returns g c =
    let to_mark = Appends-trans _ _ _ _ _ c.in_ok-write_all.ensures.bytes c.in_ok-write_mark.ensures in
    let to_part = Appends-trans _ _ _ _ _ to_mark (rw (c.as_bytes.ensures.value ∙ c.part_text.ensures) at c.in_ok-write_all-2.ensures.bytes) in
    let to_reason = Appends-trans _ _ _ _ _ to_part c.in_ok-write_reason.ensures in
    on_ok_weaker c.write_all-3.result (λ last. Appends-trans _ _ _ _ _ to_reason last) c.write_all-3.ensures.bytes
