-- The kinds of questions that rules ask, each with its answer.
use Rattle.config_match.specs.declared.answer.Answer.{Answer}
use Rattle.config_match.specs.declared.answer.Answer.TheVariants.{Pass}
use Rattle.config_match.specs.declared.kind.Kind.{Kind}
use Rattle.config_match.specs.declared.kind.Kind.TheVariants as kinds
use Rattle.config_match.specs.declared.kind.Numbers.{Numbers}
use Rattle.config_match.specs.Answer.{answer_of_condition}
use Rattle.config_match.specs.Comparisons.{given_answer, larger_answer, always_larger_answer, locale_answer, dimensions_answer, screen_size_answer, density_answer, keys_answer, navigation_answer}
use Rattle.config_match.specs.Condition.{is_equal, is_at_most, keys_suit, locale_suits}

-- A comparison looks at the numbers of two records, a condition at those of the first alone. Only the
-- dimensions look at a second number.
unfoldable pub kind_answer : Kind → Numbers → Numbers → Numbers → Answer
kind_answer kinds.Given a b d = given_answer a.first b.first d.first
kind_answer kinds.Larger a b d = larger_answer a.first b.first d.first
kind_answer kinds.AlwaysLarger a b d = always_larger_answer a.first b.first
kind_answer kinds.LocaleRank a b d = locale_answer a.first b.first d.first
kind_answer kinds.Dimensions a b d = dimensions_answer a b d
kind_answer kinds.ScreenSize a b d = screen_size_answer a.first b.first d.first
kind_answer kinds.Density a b d = density_answer a.first b.first d.first
kind_answer kinds.KeysHidden a b d = keys_answer a.first b.first d.first
kind_answer kinds.NavHidden a b d = navigation_answer a.first b.first d.first
kind_answer kinds.Equal a b d = answer_of_condition (is_equal a.first d.first)
kind_answer kinds.AtMost a b d = answer_of_condition (is_at_most a.first d.first)
kind_answer kinds.KeysSuit a b d = answer_of_condition (keys_suit a.first d.first)
kind_answer kinds.LocaleSuits a b d = answer_of_condition (locale_suits a.first d.first)
kind_answer kinds.Always a b d = Pass
