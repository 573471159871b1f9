-- The rule by which the locales of a box are compared.
use Rattle.std.specs.Prelude.{◌≡◌, ℕ, List}
use Rattle.box_answers.specs.config_record.declared.coord.Coord as coord
use Rattle.box_answers.specs.config_record.declared.coord.Coord.TheVariants as coords
use Rattle.box_answers.specs.config_record.locales.LocaleNumber.{locale_of_number}
use Rattle.box_answers.specs.config_record.Device.{device_locale}
use Rattle.box_answers.specs.config_record.locales.declared.locale_rule.LocaleRule.{LocaleRule}
use Rattle.box_answers.specs.config_record.locales.LocaleRule.{rule_of}
use Rattle.box_answers.specs.config_record.locales.Text.{IsGiven}
use Rattle.box_answers.specs.NumberSet.{SetOf, IsIn}
use Rattle.box_answers.specs.Members.{IsMember, IsSetAt}

-- the number of a locale that some text gives by this rule
pub record IsOfRule (rule : LocaleRule) (n : ℕ) : Type 0 where
  pub by_rule : rule_of (locale_of_number n) ≡ rule
  pub given : IsGiven (locale_of_number n)

-- the locale of each member of a box is compared by this rule
abbrev pub IsByRule : LocaleRule → List SetOf → Type 0
IsByRule rule sets = (d : List ℕ) → IsMember sets d → rule_of (device_locale d) ≡ rule

-- what such a box has at a coordinate
pub record IsSetBy (rule : LocaleRule) (c : coord.Coord) (set : SetOf) : Type 0 where
  pub fits : IsSetAt c set
  pub by_rule : c ≡ coords.Locale → (n : ℕ) → IsIn set n → rule_of (locale_of_number n) ≡ rule
