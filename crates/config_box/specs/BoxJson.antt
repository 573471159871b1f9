-- The box that a JSON text means, or its first fault.
use Rattle.std.specs.Prelude.{ℕ, ◌==◌, ◌||◌, nat_lt, Bool, true, false, List, [], ◌∷◌, map, length, ok_or, Result, Ok, Err}
use Rattle.std.specs.List.{list_any}
use Rattle.contract_words.specs.Faults.{◌>>=◌, checked_by}
use Rattle.serde_json.specs.Data.{Data}
use Rattle.json_input.specs.Each.{each}
use Rattle.json_input.specs.Json.{value_of}
use Rattle.box_answers.specs.config_record.declared.coord.Coord as coord
use Rattle.box_answers.specs.config_record.declared.coord.Coord.TheVariants as coords
use Rattle.box_answers.specs.config_record.locales.declared.locale.Locale.{Locale}
use Rattle.box_answers.specs.config_record.locales.declared.locale.LocaleFault.{LocaleFault}
use Rattle.box_answers.specs.config_record.locales.declared.locale.LocaleFault.TheVariants as of_locale
use Rattle.box_answers.specs.config_record.Coord.{is_outside}
use Rattle.box_answers.specs.config_record.locales.LocaleNumber.{locale_number}
use Rattle.box_answers.specs.config_record.locales.declared.locale_rule.LocaleRule.{LocaleRule}
use Rattle.box_answers.specs.config_record.locales.declared.locale_rule.LocaleRule.TheVariants.{LanguageAndRegion, Android}
use Rattle.box_answers.specs.config_record.locales.Text.{locale_by}
use Rattle.box_answers.specs.NumberSet as sets
use Rattle.box_answers.specs.Members.{most_values}
use Rattle.config_box.specs.declared.box_fault.BoxFault.{BoxFault}
use Rattle.config_box.specs.declared.box_fault.BoxFault.TheVariants.{Syntax, Shape, Empty, TooMany, FieldRange, RegionAlone, Density}
use Rattle.config_box.specs.Choices.{rising}
use Rattle.config_box.specs.Written as written

-- ---- numbers

unfoldable pub outside_fault : coord.Coord → BoxFault
outside_fault coords.Density = Density
outside_fault c = FieldRange c

unfoldable pub set_of_range : coord.Coord → ℕ → ℕ → Result sets.SetOf BoxFault
set_of_range c from to =
    checked_by ((nat_lt to from, Empty c) ∷ (is_outside c from || is_outside c to, outside_fault c) ∷ [])
    (Ok (sets.RangeOf from to))

unfoldable pub set_of_numbers : coord.Coord → List ℕ → Result sets.SetOf BoxFault
set_of_numbers c numbers =
    checked_by
    ((length numbers == 0, Empty c)
    ∷ (nat_lt most_values (length numbers), TooMany c)
    ∷ (list_any (is_outside c) numbers, outside_fault c)
    ∷ [])
    (Ok (sets.NumbersOf (rising numbers)))

-- ---- locales

abbrev pub malformed : Result Locale LocaleFault → Bool
malformed (Ok locale) = false
malformed (Err of_locale.Malformed) = true
malformed (Err of_locale.RegionAlone) = false

abbrev pub is_malformed : LocaleRule → List ℕ → Bool
is_malformed rule text = malformed (locale_by rule text)

abbrev pub alone : Result Locale LocaleFault → Bool
alone (Ok locale) = false
alone (Err of_locale.Malformed) = false
alone (Err of_locale.RegionAlone) = true

abbrev pub is_region_alone : LocaleRule → List ℕ → Bool
is_region_alone rule text = alone (locale_by rule text)

-- the number of no locale: on a phone it says that no script is known
abbrev pub number_of_none : LocaleRule → ℕ
number_of_none LanguageAndRegion = 0
number_of_none Android = 1

abbrev pub number_or_none : LocaleRule → Result Locale LocaleFault → ℕ
number_or_none rule (Ok locale) = locale_number locale
number_or_none rule (Err fault) = number_of_none rule

-- the number of a text's locale
abbrev pub number_of_text : LocaleRule → List ℕ → ℕ
number_of_text rule text = number_or_none rule (locale_by rule text)

unfoldable pub set_of_texts : LocaleRule → List (List ℕ) → Result sets.SetOf BoxFault
set_of_texts rule texts =
    checked_by
    ((length texts == 0, Empty coords.Locale)
    ∷ (nat_lt most_values (length texts), TooMany coords.Locale)
    ∷ (list_any (is_malformed rule) texts, FieldRange coords.Locale)
    ∷ (list_any (is_region_alone rule) texts, RegionAlone)
    ∷ [])
    (Ok (sets.LocalesOf (rising (map (number_of_text rule) texts))))

-- ---- a coordinate of which nothing is said: 0, or no locale; the density has to be there

unfoldable pub set_of_nothing : LocaleRule → coord.Coord → Result sets.SetOf BoxFault
set_of_nothing rule coords.Density = Err Density
set_of_nothing rule coords.Locale = Ok (sets.LocalesOf (number_of_none rule ∷ []))
set_of_nothing rule c = Ok (sets.NumbersOf (0 ∷ []))

-- ---- the box

-- at the locale stands no number, elsewhere no text
unfoldable pub set_in : LocaleRule → (coord.Coord × written.WrittenOf) → Result sets.SetOf BoxFault
set_in rule (c, written.NothingOf) = set_of_nothing rule c
set_in rule (coords.Locale, written.TextsOf texts) = set_of_texts rule texts
set_in rule (coords.Locale, w) = Err Shape
set_in rule (c, written.RangeOf from to) = set_of_range c from to
set_in rule (c, written.NumbersOf numbers) = set_of_numbers c numbers
set_in rule (c, written.TextsOf texts) = Err Shape

-- The shape of the whole comes before any coordinate; then they are looked at one after the other.
unfoldable pub box_in_value : LocaleRule → Data → Result (List sets.SetOf) BoxFault
box_in_value rule value = written.written_in value >>= each (set_in rule)

-- where locales are read by this rule
abbrev pub box_in_by : LocaleRule → List ℕ → Result (List sets.SetOf) BoxFault
box_in_by rule json = ok_or (value_of json) Syntax >>= box_in_value rule

-- by language and region
abbrev pub box_in : List ℕ → Result (List sets.SetOf) BoxFault
box_in = box_in_by LanguageAndRegion
