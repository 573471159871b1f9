use Rattle.std.proofs.Common.{append_assoc}
use Rattle.std.specs.Prelude.{codes}
use Rattle.std.specs.Fmt.{decimal}
use Rattle.std.proofs.KnownBytes.{Appends-trans}
use Rattle.notation.proofs.WrittenSteps.{written_on}
use Rattle.notation.proofs.set_text.write_between.Goals as goal

pub returns : goal.returns
returns g c =
    let sign = Appends-trans _ _ _ _ _ c.in_ok-write_all.ensures.bytes c.in_ok-write_all-2.ensures.bytes in
    let numbers = Appends-trans _ _ _ _ _ sign c.in_ok-write.ensures.bytes in
    rw (append_assoc (decimal c.args.low) (codes "..") (decimal c.args.high)) (written_on _ _ _ c.write_all-3.result _ _ numbers c.write_all-3.ensures.bytes)
