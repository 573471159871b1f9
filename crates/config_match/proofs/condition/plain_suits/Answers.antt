use Rattle.std.proofs.Common.{◌∙◌}
use Rattle.config_match.proofs.AnswerSteps.{plain_script, plain_nothing, plain_language}
use Rattle.config_match.proofs.condition.plain_suits.Goals as goal

pub returns-else-not-has_script_or_variant : goal.returns-else-not-has_script_or_variant
returns-else-not-has_script_or_variant c = plain_script c.args.stored c.args.device _ c.if-not-has_script_or_variant.false c.if-not-has_script_or_variant.ensures

pub returns-then-says_nothing : goal.returns-then-says_nothing
returns-then-says_nothing c = c.if-says_nothing.true ∙ plain_nothing c.args.stored c.args.device c.if-not-has_script_or_variant.ensures c.if-says_nothing.ensures

pub returns-then-language : goal.returns-then-language
returns-then-language c =
    plain_language c.args.stored c.args.device _ _ _ _ c.is_equal.result c.if-not-has_script_or_variant.ensures c.if-says_nothing.ensures
    c.language.ensures c.language-else-says_nothing.ensures c.if-language.true c.region.ensures c.region-then-language.ensures c.is_equal.ensures
