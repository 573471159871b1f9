-- Does a record match a device? A record is the list of its bytes, a device that of its numbers.
use Rattle.std.specs.Prelude.{ℕ, Bool, not, ◌&&◌, ◌==◌, if◌then◌else◌, List, Option, Some, option_map}
use Rattle.config_match.specs.config_record.declared.coord.Coord.TheVariants as coords
use Rattle.config_match.specs.config_record.ComparedNumber.{record_number, device_number, has_script_or_variant}
use Rattle.config_match.specs.declared.rule.Rule.{Rule}
use Rattle.config_match.specs.Answer.{is_pass}
use Rattle.config_match.specs.Locale.{language, region, is_by_language_and_region}
use Rattle.config_match.specs.Table.{answer_of_table, rule_of_table}
use Rattle.config_match.specs.declared.reason.Mismatch.{Mismatch}
use Rattle.config_match.specs.declared.reason.Mismatch.TheVariants.{SetAside, At}
use Rattle.config_match.specs.Conditions.{all_conditions}

-- A condition looks at one record alone; so here both are the same.

-- no condition fails
unfoldable pub is_match : List ℕ → List ℕ → Bool
is_match r d = is_pass (answer_of_table all_conditions (record_number r) (record_number r) (device_number d))

-- The device is compared by language and region, and the record is set aside, as its number says: by the condition of the locale
-- it does not match.
abbrev pub is_set_aside_at : List ℕ → List ℕ → Bool
is_set_aside_at r d = has_script_or_variant (record_number r coords.Locale) && is_by_language_and_region (device_number d coords.Locale)

abbrev pub mismatch_at : Rule → Mismatch
mismatch_at rule = At rule.coord

-- what fails first: it is set aside, or the condition at a coordinate fails
unfoldable pub mismatch_of : List ℕ → List ℕ → Option Mismatch
mismatch_of r d =
    if is_set_aside_at r d then Some SetAside
    else option_map mismatch_at (rule_of_table all_conditions (record_number r) (record_number r) (device_number d))

-- it has a region and no language
abbrev pub has_region_alone : List ℕ → Bool
has_region_alone r = not (region (record_number r coords.Locale) == 0) && language (record_number r coords.Locale) == 0
