-- Which of two records that suit a device is better by its locale (AOSP: isLocaleBetterThan)? It is said that the first is, or
-- nothing; never that it is not.
use Rattle.std.specs.Prelude.{ℕ, ◌==◌, ◌&&◌, ◌||◌, not, Bool, false, if◌then◌else◌}
use Rattle.locales.specs.TextNumber.{number_of_text}
use Rattle.locales.specs.Facts.{language_of, region_of}
use Rattle.locales.specs.Line.{is_near_us_english_of}
use Rattle.locales.specs.declared.compared.RecordLocale.{RecordLocale}
use Rattle.locales.specs.declared.compared.DeviceLocale.{DeviceLocale}
use Rattle.locales.specs.Words.{locale_of_device, locale_of_record, says_nothing, exactly_one, are_alike}
use Rattle.locales.specs.Nearer.{is_nearer_of}

-- ---- the exception of English

abbrev pub united_states : ℕ
united_states = region_of (number_of_text "en-US")

-- a device's locale: English in the US, or in a region that is near to US English
unfoldable pub is_us_english : ℕ → Bool
is_us_english d = language_of d == number_of_text "en" && (region_of d == united_states || is_near_us_english_of (region_of d))

-- the regions whose rows are good at such a device: in the US none and its own, elsewhere those that are near too
unfoldable pub is_good_region : ℕ → ℕ → Bool
is_good_region d region = if region_of d == united_states then region == 0 || region == united_states else is_near_us_english_of region

-- ---- where one of the two has no language

-- the one that has one is better; but at such a device only where its region is good
unfoldable pub is_better_language : ℕ → ℕ → ℕ → Bool
is_better_language a b d =
    let has_language = not (language_of a == 0) in
    if not (is_us_english d) then has_language
    else if has_language then is_good_region d (region_of a)
    else not (is_good_region d (region_of b))

-- ---- where both have one, and these are alike

-- in one region: the one without a variant, which no device has; else that of the device's own language, of Tagalog and Filipino
unfoldable pub is_better_in_region : RecordLocale → RecordLocale → DeviceLocale → Bool
is_better_in_region a b d =
    let wanted = language_of (locale_of_device d) in
    if exactly_one a.has_variant b.has_variant then b.has_variant
    else language_of (locale_of_record a) == wanted && not (language_of (locale_of_record b) == wanted)

-- ---- two records

unfoldable pub is_better_of : RecordLocale → RecordLocale → DeviceLocale → Bool
is_better_of a b d =
    let one = locale_of_record a in
    let other = locale_of_record b in
    let wanted = locale_of_device d in
    if wanted == 0 || (says_nothing a && says_nothing b) then false
    else if not (are_alike (language_of one) (language_of other)) then is_better_language one other wanted
    else if not (region_of one == region_of other) then is_nearer_of (region_of one) (region_of other) d
    else is_better_in_region a b d
