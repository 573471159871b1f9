-- The device that the kinds of an object's members mean, which stand in the order of the coordinates.
use Rattle.std.specs.Prelude.{ℕ, List, [], get_or, Option, Some, None, ok_or, Result, Ok, Err}
use Rattle.locales.specs.contract_words.Faults.{◌>>=◌}
use Rattle.json_input.specs.Each.{each}
use Rattle.json_tokens.specs.Kind.{KindOf, number_in, text_in}
use Rattle.config_record.specs.declared.coord.Coord as coord
use Rattle.config_record.specs.declared.coord.Coord.TheVariants as coords
use Rattle.config_record.specs.declared.fields.DeviceFault.{DeviceFault}
use Rattle.config_record.specs.declared.fields.DeviceFault.TheVariants.{Shape}
use Rattle.config_record.specs.Coord.{all_coords, place_of}
use Rattle.locales.specs.declared.locale_rule.LocaleRule.{LocaleRule}
use Rattle.locales.specs.Text.{locale_by}
use Rattle.config_record.specs.Device.{device_with}

abbrev pub number_or_0 : Option KindOf → Option ℕ
number_or_0 None = Some 0
number_or_0 (Some kind) = number_in kind

abbrev pub text_or_empty : Option KindOf → Option (List ℕ)
text_or_empty None = Some []
text_or_empty (Some kind) = text_in kind

-- the kind of the member at a coordinate
abbrev pub kind_at : List (Option KindOf) → coord.Coord → Option KindOf
kind_at kinds c = get_or kinds (place_of c) None

-- what is asked for there: a number; at the locale there is none to be read
unfoldable pub number_asked : coord.Coord → Option KindOf → Result ℕ DeviceFault
number_asked coords.Locale kind = Ok 0
number_asked c kind = ok_or (number_or_0 kind) Shape

abbrev pub number_asked_at : List (Option KindOf) → coord.Coord → Result ℕ DeviceFault
number_asked_at kinds c = number_asked c (kind_at kinds c)

unfoldable pub text_asked : Option KindOf → Result (List ℕ) DeviceFault
text_asked kind = ok_or (text_or_empty kind) Shape

-- no kinds where the value is no object, or has a member that is no coordinate
unfoldable pub device_of_kinds : LocaleRule → Option (List (Option KindOf)) → Result (List ℕ) DeviceFault
device_of_kinds rule None = Err Shape
device_of_kinds rule (Some kinds) = do
  numbers ← each (number_asked_at kinds) all_coords
  text ← text_asked (kind_at kinds coords.Locale)
  device_with numbers (locale_by rule text)
