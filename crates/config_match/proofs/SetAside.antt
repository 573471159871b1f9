-- A record with a script or a variant matches no device that is compared by language and region.
use Rattle.std.proofs.Common.{◌≡◌, ℕ, ◌&&◌, true, false, List, refl}
use Rattle.std.proofs.lemmas.Bool.{and_parts}
use Rattle.config_match.specs.config_record.declared.coord.Coord.TheVariants as coords
use Rattle.config_match.specs.config_record.ComparedNumber.{record_number, device_number, has_script_or_variant}
use Rattle.config_match.specs.Condition.{locale_suits}
use Rattle.config_match.specs.Locale.{is_by_language_and_region}
use Rattle.config_match.specs.Matching.{is_match, is_set_aside_at}
use Rattle.config_match.proofs.OtherLocale.{no_match}

suits_none : (a d : ℕ) → has_script_or_variant a ≡ true → is_by_language_and_region d ≡ true → locale_suits a d ≡ false
unfolding locale_suits
suits_none a d some plain = rw (plain, some) refl

pub no_match_aside : (r d : List ℕ) → is_set_aside_at r d ≡ true → is_match r d ≡ false
no_match_aside r d aside =
    let parts = and_parts (has_script_or_variant (record_number r coords.Locale)) (is_by_language_and_region (device_number d coords.Locale)) aside in
    no_match r d (suits_none (record_number r coords.Locale) (device_number d coords.Locale) parts.0 parts.1)
