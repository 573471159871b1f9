-- The locale of a language and of what else a part has of it, as a phone reads it: a script, a region, or both.
use Rattle.std.specs.Prelude.{ℕ, nat_le, List, [], ◌∷◌, ◌++◌, length, Option, Some, None, if◌then◌else◌}
use Rattle.std.specs.Str.{is_utf8}
use Rattle.std.specs.Result.{result_ok}
use Rattle.config_record.specs.locales.declared.locale.Locale.{Locale}
use Rattle.config_record.specs.locales.Locale.{dash}
use Rattle.config_record.specs.locales.declared.locale_rule.LocaleRule.TheVariants.{Android}
use Rattle.config_record.specs.locales.Text.{locale_by}

abbrev pub behind_dash : Option (List ℕ) → List ℕ
behind_dash None = []
behind_dash (Some text) = dash ∷ text

-- with dashes between them, as `zh-Hans-CN`
abbrev pub dashed : List ℕ → Option (List ℕ) → Option (List ℕ) → List ℕ
dashed language second third = (language ++ behind_dash second) ++ behind_dash third

unfoldable pub utf8_locale : List ℕ → Option Locale
utf8_locale text = if is_utf8 text then result_ok (locale_by Android text) else None

-- No text of a locale is longer than 12 bytes, as `fil-Latn-419` is.
unfoldable pub phone_locale : List ℕ → Option Locale
phone_locale text = if nat_le (length text) 12 then utf8_locale text else None
