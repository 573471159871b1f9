-- A record with a region and no language matches no device, since no device has a region without a language.
use Rattle.std.proofs.Common.{◌≡◌, ℕ, ◌*◌, ◌/◌, ◌%◌, ◌^◌, ◌<◌, ◌≤◌, ◌==◌, ◌&&◌, ◌||◌, not, nat_le, Bool, true, false, if◌then◌else◌, List, ◌∷◌, drop, IsTrue, refl, arith}
use Rattle.std.proofs.lemmas.Bool.{eqb-true, eqb-false, le-leb, and_parts, and_right, not-true}
use Rattle.std.proofs.lemmas.Bool.Decides.{nat_tests}
use Rattle.config_match.specs.config_record.declared.coord.Coord.{Coord}
use Rattle.config_match.specs.config_record.declared.coord.Coord.TheVariants as coords
use Rattle.config_match.specs.declared.answer.Answer.{Answer}
use Rattle.config_match.specs.declared.answer.Answer.TheVariants.{Yes, No, Pass}
use Rattle.config_match.specs.declared.kind.Kind.TheVariants as kinds
use Rattle.config_match.specs.declared.rule.Rule.{Rule}
use Rattle.config_match.specs.Answer.{is_pass, or_else}
use Rattle.config_match.specs.Condition.{is_equal, plain_suits, locale_suits}
use Rattle.config_match.specs.Kind.{kind_answer}
use Rattle.config_match.specs.Locale.{language, region, says_nothing, is_by_language_and_region}
use Rattle.config_match.specs.config_record.locales.TextNumber.{number_of}
use Rattle.config_match.specs.config_record.locales.Facts.{language_of, region_of}
use Rattle.config_match.specs.config_record.locales.Compared.{record_locale_of, device_locale_of}
use Rattle.config_match.specs.config_record.locales.Words.{unknown_script, script_of_device, are_alike}
use Rattle.config_match.specs.config_record.locales.Suits.{suits_of}
use Rattle.config_match.specs.Rule.{at, rule_answer}
use Rattle.config_match.specs.Table.{answer_of_table}
use Rattle.config_match.specs.config_record.ComparedNumber.{record_number, device_number, has_script_or_variant}
use Rattle.config_match.specs.Conditions.{all_conditions}
use Rattle.config_match.specs.Matching.{has_region_alone}

not_pass : (x y z : Answer) → is_pass z ≡ false → is_pass (or_else x (or_else y z)) ≡ false
not_pass Yes y z e = refl
not_pass No y z e = refl
not_pass Pass Yes z e = refl
not_pass Pass No z e = refl
not_pass Pass Pass z e = e

third_decides : (first second third : Rule) (others : List Rule) (a d : Coord → ℕ) → is_pass (rule_answer third a a d) ≡ false
    → is_pass (answer_of_table (first ∷ second ∷ third ∷ others) a a d) ≡ false
third_decides first second third others a d e =
    not_pass (rule_answer first a a d) (rule_answer second a a d) (or_else (rule_answer third a a d) (answer_of_table others a a d)) (decides (rule_answer third a a d) e)
  where
    decides : (x : Answer) → is_pass x ≡ false → is_pass (or_else x (answer_of_table others a a d)) ≡ false
    decides Yes e = refl
    decides No e = refl
    decides Pass e = absurd cc

-- a locale that does not suit
pub unsuited : (a d : Coord → ℕ) → locale_suits (a coords.Locale) (d coords.Locale) ≡ false → is_pass (answer_of_table all_conditions a a d) ≡ false
unfolding all_conditions rule_answer kind_answer
unsuited a d e = third_decides (at coords.Mcc kinds.Equal) (at coords.Mnc kinds.Equal) (at coords.Locale kinds.LocaleSuits) (drop 3 all_conditions) a d (rw e refl)

-- by language and region
plain_not_suited : (a d : ℕ) → (region a == 0) ≡ false → language a ≡ 0 → (language d ≡ 0 → d ≤ 1) → plain_suits a d ≡ false
plain_not_suited a d some none whole = and_right (not (has_script_or_variant a)) _ (languages (language a == language d) refl)
  where
    said : says_nothing a ≡ false
    said = let there = eqb-false (region a) 0 some in grind (arith, nat_tests)

    languages : (same : Bool) → (language a == language d) ≡ same → (says_nothing a || (language a == language d && is_equal (region a) (region d))) ≡ false
    languages true e =
        let equal = eqb-true (language a) (language d) e in
        let low : d ≤ 1 = whole (omega arith) in
        let zero : region d ≡ 0 = omega arith in
        rw (said, e, some, zero, some) refl
    languages false e = rw (said, e) refl

-- as a phone does it
alike_to_none : (y : ℕ) → are_alike 0 y ≡ (0 == y)
unfolding are_alike number_of
alike_to_none y = or_nothing (0 == y)
  where
    or_nothing : (b : Bool) → (b || false || false) ≡ b
    or_nothing true = refl
    or_nothing false = refl

phone_not_suited : (a d : ℕ) → (region a == 0) ≡ false → language a ≡ 0 → (language d ≡ 0 → d ≤ 1) → suits_of (record_locale_of a) (device_locale_of d) ≡ false
unfolding suits_of record_locale_of device_locale_of script_of_device
phone_not_suited a d some none whole = languages (0 == language_of (d / 2 ^ 32)) refl
  where
    said : (a / 2 ^ 32 == 0) ≡ false
    said = let there = eqb-false (region a) 0 some in grind (arith, nat_tests)

    own : language_of (a / 2 ^ 32) ≡ 0
    own = omega arith

    languages : (same : Bool) → (0 == language_of (d / 2 ^ 32)) ≡ same → suits_of (record_locale_of a) (device_locale_of d) ≡ false
    languages false e = rw (said, own, alike_to_none (language_of (d / 2 ^ 32)), e) refl
    languages true e =
        let equal = eqb-true 0 (language_of (d / 2 ^ 32)) e in
        let low : d ≤ 1 = whole (omega arith) in
        let script : nat_le (d % 2 ^ 32) unknown_script ≡ true = le-leb _ _ (omega arith) in
        let zero : region_of (d / 2 ^ 32) ≡ 0 = omega arith in
        rw (said, own, alike_to_none (language_of (d / 2 ^ 32)), e, script, some, zero, some) refl

not_suited : (a d : ℕ) → (not (region a == 0) && language a == 0) ≡ true → (d < 65536 * 2 ^ 32 → d ≤ 1) → locale_suits a d ≡ false
unfolding locale_suits
not_suited a d alone whole =
    let parts = and_parts (not (region a == 0)) (language a == 0) alone in
    let some : (region a == 0) ≡ false = not-true (region a == 0) parts.0 in
    let none : language a ≡ 0 = eqb-true (language a) 0 parts.1 in
    let silent : language d ≡ 0 → d ≤ 1 = λ zero. whole (omega arith) in
    either (is_by_language_and_region d) (plain_not_suited a d some none silent) (phone_not_suited a d some none silent)
  where
    either : (c : Bool) → plain_suits a d ≡ false → suits_of (record_locale_of a) (device_locale_of d) ≡ false → (if c then plain_suits a d else suits_of (record_locale_of a) (device_locale_of d)) ≡ false
    either true one other = one
    either false one other = other

pub region_alone : (r numbers : List ℕ) → IsTrue (has_region_alone r) → (device_number numbers coords.Locale < 65536 * 2 ^ 32 → device_number numbers coords.Locale ≤ 1)
    → is_pass (answer_of_table all_conditions (record_number r) (record_number r) (device_number numbers)) ≡ false
region_alone r numbers alone whole =
    unsuited (record_number r) (device_number numbers) (not_suited (record_number r coords.Locale) (device_number numbers coords.Locale) alone whole)
