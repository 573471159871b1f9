use Rattle.std.proofs.KnownBytes.{Appends-trans}
use Rattle.notation.proofs.WrittenSteps.{written_on}
use Rattle.notation.proofs.locale_parts.write_tag.Goals as goal

pub returns : goal.returns
returns g c =
    let language = Appends-trans _ _ _ _ _ c.in_ok-write_all.ensures.bytes c.in_ok-write_all-2.ensures.bytes in
    let script = Appends-trans _ _ _ _ _ language c.in_ok-write_unless_zero.ensures in
    let region = Appends-trans _ _ _ _ _ script c.in_ok-write_behind.ensures in
    written_on _ _ _ c.write_unless_zero-2.result _ _ region (rw c.variant_text.ensures at c.write_unless_zero-2.ensures)
