-- Devices: the configurations that are asked for. A device is the list of the numbers that are compared,
-- one for each coordinate, in their order.
use Rattle.std.specs.Prelude.{◌≡◌, ℕ, false, List, [], ◌∷◌, Result, Ok, Err}
use Rattle.locales.specs.contract_words.Faults.{checked_by}
use Rattle.json_input.specs.Each.{each}
use Rattle.config_record.specs.declared.coord.Coord as coord
use Rattle.config_record.specs.declared.coord.Coord.TheVariants as coords
use Rattle.locales.specs.declared.locale.Locale.{Locale}
use Rattle.locales.specs.declared.locale.LocaleFault.{LocaleFault}
use Rattle.locales.specs.declared.locale.LocaleFault.TheVariants as of_locale
use Rattle.config_record.specs.declared.fields.Fields.{Fields}
use Rattle.config_record.specs.declared.fields.DeviceFault.{DeviceFault}
use Rattle.config_record.specs.declared.fields.DeviceFault.TheVariants.{FieldRange, RegionAlone, Density}
use Rattle.config_record.specs.Coord.{all_coords, number_at, is_outside}
use Rattle.locales.specs.Locale.{checked_locale}
use Rattle.locales.specs.Text.{IsGiven}
use Rattle.config_record.specs.ComparedNumber.{device_number}
use Rattle.locales.specs.LocaleNumber.{locale_number, locale_of_number}

-- ---- a device from the numbers that are asked for, one for each coordinate, and a locale

-- a device has a density; one that is too great is no FieldRange
abbrev pub density_in : ℕ → Result ℕ DeviceFault
density_in n = checked_by ((is_outside coords.Density n, Density) ∷ []) (Ok n)

abbrev pub locale_number_in : Result Locale LocaleFault → Result ℕ DeviceFault
locale_number_in (Ok l) = Ok (locale_number l)
locale_number_in (Err of_locale.RegionAlone) = Err RegionAlone
locale_number_in (Err of_locale.Malformed) = Err (FieldRange coords.Locale)

abbrev pub field_in : coord.Coord → ℕ → Result ℕ DeviceFault
field_in c n = checked_by ((is_outside c n, FieldRange c) ∷ []) (Ok n)

-- the number at a coordinate, or what is wrong with it; `locale` is that at the locale
unfoldable pub number_in : List ℕ → Result ℕ DeviceFault → coord.Coord → Result ℕ DeviceFault
number_in asked locale coords.Locale = locale
number_in asked locale coords.Density = density_in (number_at asked coords.Density)
number_in asked locale c = field_in c (number_at asked c)

-- coordinate by coordinate: the numbers, or the first fault
unfoldable pub device_with : List ℕ → Result Locale LocaleFault → Result (List ℕ) DeviceFault
device_with asked l = each (number_in asked (locale_number_in l)) all_coords

-- a device from fields, whose number at the locale is not used
abbrev pub device_in : Fields → Result (List ℕ) DeviceFault
device_in fields = device_with fields.numbers (checked_locale fields.locale)

-- ---- what a device says

abbrev pub device_locale : List ℕ → Locale
device_locale d = locale_of_number (device_number d coords.Locale)

-- the number at a coordinate, 0 at the locale, which is no number
unfoldable pub device_coordinate : List ℕ → coord.Coord → ℕ
device_coordinate d coords.Locale = 0
device_coordinate d c = device_number d c

-- ---- what it can say

-- A device can have this number at this coordinate: one in its range, and at the locale that of one that a text gives.
abbrev pub CanHave : coord.Coord → ℕ → Type 0
CanHave coords.Locale n = IsGiven (locale_of_number n)
CanHave c n = is_outside c n ≡ false
