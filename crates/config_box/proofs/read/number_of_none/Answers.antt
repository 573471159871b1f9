use Rattle.box_answers.specs.config_record.locales.declared.locale_rule.LocaleRule.TheVariants.{LanguageAndRegion, Android}
use Rattle.config_box.proofs.ReadSteps.{none_of_rule}
use Rattle.config_box.proofs.read.number_of_none.Goals as goal

pub returns-in-LanguageAndRegion-clause-of_rule : goal.returns-in-LanguageAndRegion-clause-of_rule
returns-in-LanguageAndRegion-clause-of_rule c = rw c.in-LanguageAndRegion.is (none_of_rule LanguageAndRegion)

pub returns-in-Android-clause-of_rule : goal.returns-in-Android-clause-of_rule
returns-in-Android-clause-of_rule c = rw c.in-Android.is (none_of_rule Android)
