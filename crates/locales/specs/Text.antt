-- The texts of a locale, by either rule.
use Rattle.std.specs.Prelude.{◌≡◌, ℕ, ◌==◌, ◌&&◌, not, Bool, if◌then◌else◌, List, [], ◌∷◌, ◌++◌, length, drop, Option, Some, None, is_some, unwrap_or, Result, Ok}
use Rattle.std.specs.List.{before_first, after_first}
use Rattle.std.specs.Option.{option_map_or}
use Rattle.std.specs.Int.{w32, to_be_bytes}
use Rattle.locales.specs.contract_words.Faults.{◌>>=◌, refuse}
use Rattle.locales.specs.declared.locale.Locale.{Locale}
use Rattle.locales.specs.declared.locale.LocaleFault.{LocaleFault}
use Rattle.locales.specs.declared.locale.LocaleFault.TheVariants.{Malformed}
use Rattle.locales.specs.Locale.{dash, is_small_letter, is_capital_letter, no_part, without_script, locale_of, plain_text}
use Rattle.locales.specs.TextNumber.{number_of}
use Rattle.locales.specs.Facts.{likely_of}
use Rattle.locales.specs.declared.locale_rule.LocaleRule.{LocaleRule}
use Rattle.locales.specs.declared.locale_rule.LocaleRule.TheVariants.{LanguageAndRegion, Android}
use Rattle.locales.specs.LocaleRule.{rule_of}
use Rattle.locales.specs.Words.{number_of_script, unknown_script}

-- ---- scripts

-- a capital and three small letters
abbrev pub written_script : List ℕ → Option (List ℕ)
written_script (a ∷ b ∷ c ∷ d ∷ []) =
    if is_capital_letter a && is_small_letter b && is_small_letter c && is_small_letter d then Some (a ∷ b ∷ c ∷ d ∷ []) else None
written_script _ = None

-- the number of the script in which a locale is likely written, or that none is known
abbrev pub likely_number : Locale → ℕ
likely_number l = unwrap_or (likely_of (number_of l)) unknown_script

abbrev pub in_script : List ℕ → Locale → Locale
in_script script l = record { language = l.language; region = l.region; script = script }

-- ---- the locale of a text

-- a locale in the script in which it is likely written
unfoldable pub in_likely_script : Locale → Locale
in_likely_script l = in_script (to_be_bytes w32 (likely_number l)) l

abbrev pub is_dash : ℕ → Bool
is_dash b = b == dash

-- what stands before the first dash, and behind it
abbrev pub language_part : List ℕ → List ℕ
language_part text = before_first is_dash text

abbrev pub behind_language : List ℕ → List ℕ
behind_language text = after_first is_dash text

-- the text without the script: zh-HK where it is zh-Hant-HK
abbrev pub text_without_script : List ℕ → List ℕ
text_without_script text = language_part text ++ drop 4 (behind_language text)

-- a script needs a language before it; without the script the text is read as by language and region
abbrev pub with_script : List ℕ → List ℕ → Result Locale LocaleFault
with_script text script = do
  _ ← refuse (length (language_part text) == 0) Malformed
  locale ← locale_of (text_without_script text)
  Ok (in_script script locale)

-- a text that has none is of the likely script
abbrev pub with_likely_script : List ℕ → Result Locale LocaleFault
with_likely_script text = locale_of text >>= λ locale. Ok (in_likely_script locale)

-- a script stands behind the first dash, up to the next one
unfoldable pub scripted_locale_of : List ℕ → Result Locale LocaleFault
scripted_locale_of text =
    option_map_or (with_script text) (written_script (language_part (behind_language text))) (with_likely_script text)

-- by language and region a text has no script
unfoldable pub locale_by : LocaleRule → List ℕ → Result Locale LocaleFault
locale_by LanguageAndRegion text = locale_of text
locale_by Android text = scripted_locale_of text

-- ---- the text of a locale

abbrev pub language_alone : Locale → Locale
language_alone l = without_script l.language no_part

-- its text begins with a dash
abbrev pub region_alone : Locale → Locale
region_alone l = without_script no_part l.region

abbrev pub text_with_script : Locale → List ℕ
text_with_script l = plain_text (language_alone l) ++ dash ∷ l.script ++ plain_text (region_alone l)

-- it is one that texts can have, and not the likely one
abbrev pub shows_script : Locale → Bool
shows_script l = is_some (written_script l.script) && not (number_of_script l.script == likely_number l)

unfoldable pub locale_text : Locale → List ℕ
locale_text l = if shows_script l then text_with_script l else plain_text l

-- ---- the locales that texts give

-- what is written of it reads as it; so no script is written that texts cannot have
abbrev pub IsGivenBy : LocaleRule → Locale → Type 0
IsGivenBy rule l = locale_by rule (locale_text l) ≡ Ok l

abbrev pub IsGiven : Locale → Type 0
IsGiven l = IsGivenBy (rule_of l) l
