use Rattle.std.proofs.lemmas.Nat.{from_be_bytes-to_be_bytes_8}
use Rattle.locales.specs.LocaleNumber.{locale_number}
use Rattle.locales.proofs.locale.Locale.of_number.Goals as goal

pub returns-clause-back : goal.returns-clause-back
unfolding locale_number
returns-clause-back c = rw c.to_be_bytes.ensures (from_be_bytes-to_be_bytes_8 c.args.number c.ranges.number.fits)
