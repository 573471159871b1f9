use Rattle.std.proofs.Common.{sym}
use Rattle.config_record.specs.Qualifiers.{bytes_qualifier}
use Rattle.notation.proofs.WrittenSteps.{written_on, one_written}
use Rattle.notation.proofs.locale_parts.write_named_bytes.Goals as goal

pub returns : goal.returns
unfolding bytes_qualifier
returns g c =
    let text = written_on _ _ _ c.write_hex.result _ _ c.in_ok-write.ensures.bytes c.write_hex.ensures in
    rw (sym c.if-is_zero.ensures, c.in_ok-write_separator.ensures.due) (one_written 45 c.args.due.now _ _ _ c.write_hex.result _ c.in_ok-write_separator.ensures.text text)
