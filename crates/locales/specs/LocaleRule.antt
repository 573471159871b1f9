-- By which rule is a locale compared?
use Rattle.std.specs.Prelude.{if◌then◌else◌}
use Rattle.locales.specs.declared.locale.Locale.{Locale}
use Rattle.locales.specs.Zero.{is_zero}
use Rattle.locales.specs.declared.locale_rule.LocaleRule.{LocaleRule}
use Rattle.locales.specs.declared.locale_rule.LocaleRule.TheVariants.{LanguageAndRegion, Android}

-- a locale without a word on its script is compared by language and region
abbrev pub rule_of : Locale → LocaleRule
rule_of l = if is_zero l.script then LanguageAndRegion else Android
