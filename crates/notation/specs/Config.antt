-- The device that a line stands for.
use Rattle.std.specs.Prelude.{ℕ, false, List, [], Result, Ok, Err, replicate, slice_set}
use Rattle.contract_words.specs.Faults.{◌>>=◌}
use Rattle.config_record.specs.declared.coord.Coord.TheVariants as coords
use Rattle.config_record.specs.declared.fields.DeviceFault.{DeviceFault}
use Rattle.config_record.specs.declared.fields.Fields.{Fields}
use Rattle.config_record.specs.locales.declared.locale.Locale.{Locale}
use Rattle.config_record.specs.locales.declared.locale.LocaleFault.{LocaleFault}
use Rattle.config_record.specs.locales.declared.locale.TheConstants.Locale.{NONE}
use Rattle.config_record.specs.locales.LocaleNumber.{locale_number}
use Rattle.config_record.specs.locales.declared.locale_rule.LocaleRule.{LocaleRule}
use Rattle.config_record.specs.locales.declared.locale_rule.LocaleRule.TheVariants.{LanguageAndRegion, Android}
use Rattle.config_record.specs.locales.Text.{locale_by}
use Rattle.config_record.specs.Coord.{place_of}
use Rattle.config_record.specs.Device.{device_in}
use Rattle.notation.specs.declared.said.Said.{Said}
use Rattle.notation.specs.Fault.{FaultOf, NoDevice}
use Rattle.notation.specs.Parts.{parts_of}
use Rattle.notation.specs.Said.{with_parts}

abbrev pub or_none : Result Locale LocaleFault → Locale
or_none (Ok locale) = locale
or_none (Err fault) = NONE

-- Before any part is read, the type of the interface is 1, `normal`, which no part can say, and each other number is 0. The
-- locale is that of an empty text.
unfoldable pub nothing_said : LocaleRule → Said
nothing_said rule =
    record {
      fields = record { numbers = slice_set (replicate 25 0) (place_of coords.UiType) 1; locale = or_none (locale_by rule []) };
      given = replicate 25 false;
    }

abbrev pub or_no_device : Result (List ℕ) DeviceFault → Result (List ℕ) FaultOf
or_no_device (Ok device) = Ok device
or_no_device (Err fault) = Err (NoDevice fault)

abbrev pub without_locale : Fields → Fields
without_locale fields = record fields { locale = NONE }

-- a device, which is the list of its numbers, with another locale
abbrev pub with_locale : Locale → List ℕ → List ℕ
with_locale locale device = slice_set device (place_of coords.Locale) (locale_number locale)

-- The numbers are checked. `device_in` refuses a locale with a script, so a phone's is put in when they have been checked.
unfoldable pub device_of_fields : LocaleRule → Fields → Result (List ℕ) DeviceFault
device_of_fields LanguageAndRegion fields = device_in fields
device_of_fields Android fields = device_in (without_locale fields) >>= λ device. Ok (with_locale fields.locale device)

-- the device of what was said
unfoldable pub device_said : LocaleRule → Said → Result (List ℕ) FaultOf
device_said rule said = or_no_device (device_of_fields rule said.fields)

-- the device of a line where locales are read by this rule, or the first fault of the line
unfoldable pub device_of_config_by : LocaleRule → List ℕ → Result (List ℕ) FaultOf
device_of_config_by rule line = with_parts rule (parts_of line) (nothing_said rule) >>= device_said rule
