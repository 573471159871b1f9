-- Locales that AOSP compares otherwise. A locale is the number of its eight bytes, the two of its language first, the script's last.
use Rattle.std.specs.Prelude.{ℕ, ◌+◌, ◌*◌, ◌/◌, ◌%◌, ◌^◌, ◌==◌, ◌&&◌, ◌||◌, not, Bool, List, [], ◌∷◌, map, codes, slice_index, unwrap_or, if◌then◌else◌}
use Rattle.std.specs.List.{list_any}
use Rattle.command_base.specs.cert_tree.config_box.config_record.locales.Locale.{language_of, no_part}

-- neither a language nor a region, whatever the script
abbrev pub says_nothing : ℕ → Bool
says_nothing locale = locale / 2 ^ 32 == 0

abbrev pub language_in : ℕ → ℕ
language_in locale = locale / 2 ^ 32 / 65536

abbrev pub region_in : ℕ → ℕ
region_in locale = locale / 2 ^ 32 % 65536

-- the number of two bytes
abbrev pub part_number : List ℕ → ℕ
part_number bytes = 256 * slice_index bytes 0 + slice_index bytes 1

-- the language of a text, as a number
abbrev pub language_number : List ℕ → ℕ
language_number text = part_number (unwrap_or (language_of text) no_part)

-- To AOSP tl and fil are one language (AOSP: langsAreEquivalent).
abbrev pub filipino_languages : List ℕ
filipino_languages = map language_number (codes "tl" ∷ codes "fil" ∷ [])

-- The languages that some regions write in another script (CLDR: likelySubtags; AOSP: LIKELY_SCRIPTS).
abbrev pub languages_of_scripts : List ℕ
languages_of_scripts =
    map language_number
    (codes "az" ∷ codes "ha" ∷ codes "kk" ∷ codes "ku" ∷ codes "ky" ∷ codes "man" ∷ codes "mn" ∷ codes "ms" ∷ codes "pa"
    ∷ codes "rif" ∷ codes "sd" ∷ codes "sr" ∷ codes "tg" ∷ codes "ug" ∷ codes "unr" ∷ codes "uz" ∷ codes "yue" ∷ codes "zh"
    ∷ [])

-- the number of a locale of this language and this region
abbrev pub locale_with : List ℕ → List ℕ → ℕ
locale_with language region = (65536 * language_number language + part_number region) * 2 ^ 32

-- The pseudolocales en-XA and ar-XB, which have scripts of their own (AOSP: LIKELY_SCRIPTS).
abbrev pub pseudolocales : List ℕ
pseudolocales =
    locale_with (codes "en") (codes "XA") ∷ locale_with (codes "ar") (codes "XB") ∷ []

abbrev pub is_one_of : List ℕ → ℕ → Bool
is_one_of languages language = list_any (λ other. other == language) languages

unfoldable pub is_filipino : ℕ → Bool
is_filipino language = is_one_of filipino_languages language

unfoldable pub has_scripts : ℕ → Bool
has_scripts language = is_one_of languages_of_scripts language

unfoldable pub is_pseudolocale : ℕ → Bool
is_pseudolocale locale = is_one_of pseudolocales locale

unfoldable pub has_pseudolocale : ℕ → Bool
has_pseudolocale language = is_one_of (map language_in pseudolocales) language

-- AOSP matches two locales of different regions where their scripts are the same, and a language alone not with a region
-- that writes it in another script.
abbrev pub regions_differ : ℕ → ℕ → Bool
regions_differ row_locale device_locale =
    if region_in row_locale == 0 then not (region_in device_locale == 0) && (has_scripts (language_in row_locale) || is_pseudolocale device_locale)
    else not (region_in row_locale == region_in device_locale)

-- A row with this locale, and one with a script or a variant beside it, may be matched by AOSP at a device with the other
-- locale and not here, or here and not by AOSP.
unfoldable pub differs_at : ℕ → Bool → ℕ → Bool
differs_at row_locale set_aside device_locale =
    if language_in row_locale == 0 then set_aside
    else if language_in row_locale == language_in device_locale then set_aside || regions_differ row_locale device_locale
    else is_filipino (language_in row_locale) && is_filipino (language_in device_locale)

-- there is such a device
unfoldable pub differs_somewhere : ℕ → Bool → Bool
differs_somewhere row_locale set_aside =
    set_aside || not (language_in row_locale == 0) && (not (region_in row_locale == 0) || (is_filipino (language_in row_locale) || (has_scripts (language_in row_locale) || has_pseudolocale (language_in row_locale))))
