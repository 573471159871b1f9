-- The conditions under which a number of a record suits that of a device (AOSP: ResTable_config::match).
-- A record that says 0 suits every device.
use Rattle.std.specs.Prelude.{ℕ, ◌==◌, ◌&&◌, ◌||◌, not, nat_le, Bool, if◌then◌else◌}
use Rattle.config_record.specs.locales.Compared.{record_locale_of, device_locale_of}
use Rattle.config_record.specs.locales.Suits.{suits_of}
use Rattle.config_match.specs.Locale.{language, region, says_nothing, is_by_language_and_region}
use Rattle.config_record.specs.ComparedNumber.{has_script_or_variant}

abbrev pub is_equal : ℕ → ℕ → Bool
is_equal a d = a == 0 || a == d

-- sizes and versions: the device has as much
abbrev pub is_at_most : ℕ → ℕ → Bool
is_at_most a d = a == 0 || nat_le a d

abbrev pub exposed_keys : ℕ
exposed_keys = 1

abbrev pub soft_keys : ℕ
soft_keys = 3

-- keys that are exposed suit a device with keys on its screen too: "for compatibility, we count a
-- request for KEYSHIDDEN_NO as also matching the more recent KEYSHIDDEN_SOFT"
abbrev pub keys_suit : ℕ → ℕ → Bool
keys_suit a d = is_equal a d || (a == exposed_keys && d == soft_keys)

-- By language and region: it has no script and no variant; and it says nothing, or the languages are equal, and the record's
-- region is the device's, if it has one. A region alone suits no device, since none has a region without a language.
abbrev pub plain_suits : ℕ → ℕ → Bool
plain_suits a d =
    not (has_script_or_variant a) && (says_nothing a || (language a == language d && is_equal (region a) (region d)))

-- the device says by which rule
unfoldable pub locale_suits : ℕ → ℕ → Bool
locale_suits a d =
    if is_by_language_and_region d then plain_suits a d
    else suits_of (record_locale_of a) (device_locale_of d)
