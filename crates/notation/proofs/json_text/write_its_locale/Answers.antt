use Rattle.std.proofs.Common.{◌≡◌, ◌++◌, false, refl, sym, append_assoc}
use Rattle.std.specs.Prelude.{◌&&◌, codes}
use Rattle.std.proofs.KnownBytes.{Appends-trans}
use Rattle.config_record.specs.declared.coord.Coord.TheVariants as coords
use Rattle.config_record.specs.Coord.{name_of}
use Rattle.config_record.specs.locales.Text.{locale_text}
use Rattle.config_record.specs.locales.Zero.{is_zero}
use Rattle.notation.specs.JsonText.{locale_member}
use Rattle.notation.proofs.WrittenSteps.{written_on, one_written}
use Rattle.notation.proofs.json_text.write_its_locale.Goals as goal
use Rattle.notation.proofs.json_text.write_its_locale.Goals.{else-is_zero-via-then-is_zero+else-is_zero-2, else-is_zero-via-else-is_zero}

pub returns : goal.returns
unfolding locale_member
returns g c =
    let locale = c.args.locale in
    let some : (is_zero locale.language && is_zero locale.region) ≡ false = elim c.else-is_zero.branch [
      | else-is_zero-via-then-is_zero+else-is_zero-2 w ↦ rw (sym w.if-is_zero.ensures, sym w.if-is_zero-2.ensures) refl
      | else-is_zero-via-else-is_zero w ↦ rw (sym w.if-is_zero.ensures) refl
    ] in
    let name = name_of coords.Locale in
    let end = locale_text locale ++ codes "\"" in
    let named = rw c.name-name.ensures at c.in_ok-write.ensures.bytes in
    let whole = written_on _ _ _ c.write_all.result _ _ (Appends-trans _ _ _ _ _ named c.in_ok-write_locale.ensures) c.write_all.ensures.bytes in
    let text = rw (append_assoc (name ++ codes "\":\"") (locale_text locale) (codes "\""), append_assoc name (codes "\":\"") end) at whole in
    rw (some, c.in_ok-write_separator.ensures.due, append_assoc name (codes "\":") (codes "\"" ++ end)) (one_written 44 c.args.due.now _ _ _ c.write_all.result _ c.in_ok-write_separator.ensures.text text)
