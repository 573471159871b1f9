-- The part that gives locales: there may be several, with commas between them. The first counts, and the others are not
-- looked at. A locale is `es`, `fil`, `es-rMX`, or `b+es`, `b+es+419`; as a phone reads it also `b+zh+Hans`, `b+zh+Hans+CN`.
use Rattle.std.specs.Prelude.{◌≡◌, ℕ, ◌==◌, List, length, codes, Option, Some, None, is_some, if◌then◌else◌}
use Rattle.std.specs.Option.{option_and_then}
use Rattle.std.specs.Result.{result_ok}
use Rattle.config_record.specs.locales.declared.locale.Locale.{Locale}
use Rattle.config_record.specs.locales.Locale.{dash, locale_of_parts}
use Rattle.config_record.specs.locales.declared.locale_rule.LocaleRule.{LocaleRule}
use Rattle.config_record.specs.locales.declared.locale_rule.LocaleRule.TheVariants.{LanguageAndRegion, Android}
use Rattle.config_record.specs.locales.Text.{IsGiven}
use Rattle.notation.specs.Cut.{cut_at, behind}
use Rattle.notation.specs.PhoneLocale.{dashed, phone_locale}

abbrev pub comma : ℕ
comma = 44

abbrev pub plus : ℕ
plus = 43

-- ---- of a language and a region

-- a language has to be there
abbrev pub plain_locale : List ℕ → Option (List ℕ) → Option Locale
plain_locale language region = if length language == 0 then None else result_ok (locale_of_parts language region)

-- for a phone, the same locale in its likely script
unfoldable pub locale_of_texts : LocaleRule → List ℕ → Option (List ℕ) → Option Locale
locale_of_texts LanguageAndRegion language region = plain_locale language region
locale_of_texts Android language region =
    if is_some (plain_locale language region) then phone_locale (dashed language region None) else None

-- ---- without `b+`

-- what stands behind a dash is `r` and a region
abbrev pub with_region_behind : LocaleRule → List ℕ → Option (List ℕ) → Option Locale
with_region_behind rule language None = locale_of_texts rule language None
with_region_behind rule language (Some text) =
    option_and_then (λ region. locale_of_texts rule language (Some region)) (behind (codes "r") text)

abbrev pub by_dash : LocaleRule → List ℕ → Option Locale
by_dash rule text = with_region_behind rule (cut_at dash text).0 (cut_at dash text).1

-- ---- with `b+`

-- for a phone, what stands behind the language may be a script, and then a region
unfoldable pub with_others : LocaleRule → List ℕ → List ℕ → Option Locale
with_others LanguageAndRegion language others = plain_locale language (Some others)
with_others Android language others = phone_locale (dashed language (Some (cut_at plus others).0) (cut_at plus others).1)

abbrev pub with_others_behind : LocaleRule → List ℕ → Option (List ℕ) → Option Locale
with_others_behind rule language None = locale_of_texts rule language None
with_others_behind rule language (Some others) = with_others rule language others

abbrev pub by_plus : LocaleRule → List ℕ → Option Locale
by_plus rule text = with_others_behind rule (cut_at plus text).0 (cut_at plus text).1

-- ---- either way

abbrev pub by_sign : LocaleRule → Option (List ℕ) → List ℕ → Option Locale
by_sign rule None text = by_dash rule text
by_sign rule (Some marked) text = by_plus rule marked

unfoldable pub one_locale : LocaleRule → List ℕ → Option Locale
one_locale rule text = by_sign rule (behind (codes "b+") text) text

unfoldable pub locale_in : LocaleRule → List ℕ → Option Locale
locale_in rule part = one_locale rule (cut_at comma part).0

-- ---- what a device can have

-- a phone has a locale that some text gives, with its script
abbrev pub IsGivenFor : LocaleRule → Locale → Type 0
IsGivenFor rule locale = rule ≡ Android → IsGiven locale
