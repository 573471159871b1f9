use Rattle.std.proofs.Common.{◌≡◌, false, refl, sym}
use Rattle.std.specs.Prelude.{◌&&◌}
use Rattle.config_record.specs.locales.Zero.{is_zero}
use Rattle.config_record.specs.Qualifiers.{locale_qualifier}
use Rattle.notation.proofs.WrittenSteps.{written_on, one_written}
use Rattle.notation.proofs.locale_parts.write_named_locale.Goals as goal
use Rattle.notation.proofs.locale_parts.write_named_locale.Goals.{else-is_zero-via-then-is_zero+else-is_zero-2, else-is_zero-via-else-is_zero}

pub returns : goal.returns
unfolding locale_qualifier
returns g c =
    let locale = c.args.locale in
    let some : (is_zero locale.language && is_zero locale.region) ≡ false = elim c.else-is_zero.branch [
      | else-is_zero-via-then-is_zero+else-is_zero-2 w ↦ rw (sym w.if-is_zero.ensures, sym w.if-is_zero-2.ensures) refl
      | else-is_zero-via-else-is_zero w ↦ rw (sym w.if-is_zero.ensures) refl
    ] in
    let named = rw c.name-name.ensures at c.in_ok-write.ensures.bytes in
    let text = written_on _ _ _ c.write_locale.result _ _ named c.write_locale.ensures in
    rw (some, c.in_ok-write_separator.ensures.due) (one_written 45 c.args.due.now _ _ _ c.write_locale.result _ c.in_ok-write_separator.ensures.text text)
