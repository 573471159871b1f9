-- Rows that are set aside, by the rule that compares locales.
use Rattle.std.specs.Prelude.{ℕ, List}
use Rattle.command_base.specs.answer_text.config_record.locales.declared.locale_rule.LocaleRule.{LocaleRule}
use Rattle.command_base.specs.answer_text.config_record.locales.declared.locale_rule.LocaleRule.TheVariants.{LanguageAndRegion, Android}
use Rattle.command_base.specs.overlay_map.Layer.{LayerOf}
use Rattle.command_base.specs.overlay_map.SetAside.{set_aside_in_stack}

-- how many rows of all layers are set aside: as a phone compares locales none is
abbrev pub rows_set_aside : LocaleRule → List LayerOf → ℕ
rows_set_aside LanguageAndRegion stack = set_aside_in_stack stack
rows_set_aside Android stack = 0
