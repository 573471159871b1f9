-- Which values of a choice does a test list? (Cited by contracts of this crate alone.)
use Rattle.std.specs.Prelude.{ℕ, Bool, List, map, slice_set}
use Rattle.cert_checker.specs.config_record.declared.coord.Coord.{Coord}
use Rattle.cert_checker.specs.config_record.Coord.{all_coords, place_of}
use Rattle.cert_checker.specs.config_record.declared.coord.Coord.TheVariants.{Locale as at_locale}
use Rattle.cert_checker.specs.config_record.locales.declared.locale.Locale.{Locale}
use Rattle.cert_checker.specs.config_record.ComparedNumber.{device_number}
use Rattle.cert_checker.specs.config_record.locales.LocaleNumber.{locale_number}

-- the numbers of a device, in the order of the coordinates
abbrev pub numbers_of : List ℕ → List ℕ
numbers_of d = map (device_number d) all_coords

-- what a device answers with another number at a coordinate
abbrev pub answer_with : (List ℕ → Bool) → List ℕ → Coord → ℕ → Bool
answer_with answer d c n = answer (slice_set (numbers_of d) (place_of c) n)

-- and with another locale
abbrev pub answer_in : (List ℕ → Bool) → List ℕ → Locale → Bool
answer_in answer d locale = answer_with answer d at_locale (locale_number locale)
