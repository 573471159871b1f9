-- The device that a JSON text means.
use Rattle.std.specs.Prelude.{ℕ, List, [], map, not, Option, Some, None, ok_or, Result, Ok}
use Rattle.locales.specs.contract_words.Faults.{◌>>=◌, refuse}
use Rattle.serde_json.specs.Data.{Data}
use Rattle.serde_json.specs.Find.{get}
use Rattle.json_input.specs.Json.{value_of}
use Rattle.json_input.specs.Shape.{has_only, number_of, text_of}
use Rattle.json_input.specs.Each.{each}
use Rattle.config_record.specs.declared.coord.Coord as coord
use Rattle.config_record.specs.declared.coord.Coord.TheVariants as coords
use Rattle.config_record.specs.declared.fields.DeviceFault.{DeviceFault}
use Rattle.config_record.specs.declared.fields.DeviceFault.TheVariants.{Syntax, Shape}
use Rattle.config_record.specs.Coord.{all_coords, name_of}
use Rattle.locales.specs.declared.locale_rule.LocaleRule.{LocaleRule}
use Rattle.locales.specs.declared.locale_rule.LocaleRule.TheVariants.{LanguageAndRegion}
use Rattle.locales.specs.Text.{locale_by}
use Rattle.config_record.specs.Device.{device_with}

-- ---- what is asked for at a coordinate: a member of its name, or 0 or no text where there is none

abbrev pub number_or_0 : Option Data → Option ℕ
number_or_0 None = Some 0
number_or_0 (Some value) = number_of value

abbrev pub text_or_empty : Option Data → Option (List ℕ)
text_or_empty None = Some []
text_or_empty (Some value) = text_of value

-- the number; at the locale there is none to be read
unfoldable pub number_asked : Data → coord.Coord → Result ℕ DeviceFault
number_asked value coords.Locale = Ok 0
number_asked value c = ok_or (number_or_0 (get (name_of c) value)) Shape

unfoldable pub numbers_asked : Data → Result (List ℕ) DeviceFault
numbers_asked value = each (number_asked value) all_coords

unfoldable pub locale_asked : Data → Result (List ℕ) DeviceFault
locale_asked value = ok_or (text_or_empty (get (name_of coords.Locale) value)) Shape

-- ---- the device

-- The shape of the whole comes before any coordinate: an object whose members are coordinates, a text at
-- the locale and numbers elsewhere.
unfoldable pub device_in_value : LocaleRule → Data → Result (List ℕ) DeviceFault
device_in_value rule value = do
  _ ← refuse (not (has_only (map name_of all_coords) value)) Shape
  numbers ← numbers_asked value
  text ← locale_asked value
  device_with numbers (locale_by rule text)

-- the device that bytes mean, where locales are read by this rule, or the first fault
abbrev pub device_in_json_by : LocaleRule → List ℕ → Result (List ℕ) DeviceFault
device_in_json_by rule bytes = ok_or (value_of bytes) Syntax >>= device_in_value rule

-- by language and region
abbrev pub device_in_json : List ℕ → Result (List ℕ) DeviceFault
device_in_json = device_in_json_by LanguageAndRegion
