-- The number that is compared at a coordinate, of a record and of a device: that of the locale, and at any
-- other coordinate the number that stands there.
use Rattle.std.specs.Prelude.{ℕ, ◌%◌, ◌^◌, ◌==◌, ◌||◌, not, Bool, List}
use Rattle.config_record.specs.declared.coord.Coord as coord
use Rattle.config_record.specs.declared.coord.Coord.TheVariants as coords
use Rattle.locales.specs.LocaleNumber.{locale_number}
use Rattle.config_record.specs.Coord.{number_at}
use Rattle.config_record.specs.Record.{coordinate, locale_in, locale_script, locale_variant, script_was_computed}
use Rattle.locales.specs.declared.locale.Locale.{Locale}
use Rattle.locales.specs.KeptScript.{kept_script}
use Rattle.locales.specs.Text.{in_script}

-- the locale by which a record is compared, with what is kept of its script and its variant
abbrev pub compared_locale : List ℕ → Locale
compared_locale r = in_script (kept_script (locale_script r) (locale_variant r) (script_was_computed r)) (locale_in r)

-- of a record, which is the list of its bytes
unfoldable pub record_number : List ℕ → coord.Coord → ℕ
record_number r coords.Locale = locale_number (compared_locale r)
record_number r c = coordinate r c

-- the number of a record's locale says of its script and its variant more than that there is none, or that Android has looked
-- for a script, and there is none
abbrev pub has_script_or_variant : ℕ → Bool
has_script_or_variant n = not (n % 2 ^ 32 == 0 || n % 2 ^ 32 == 2)

-- of a device, which is the list of these numbers
abbrev pub device_number : List ℕ → coord.Coord → ℕ
device_number d c = number_at d c
