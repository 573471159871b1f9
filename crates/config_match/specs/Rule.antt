-- Rules: a question of some kind at a coordinate. A configuration is seen as the number that is compared at
-- each coordinate.
use Rattle.std.specs.Prelude.{ℕ}
use Rattle.config_record.specs.declared.coord.Coord.{Coord}
use Rattle.config_record.specs.declared.coord.Coord.TheVariants as coords
use Rattle.config_match.specs.declared.answer.Answer.{Answer}
use Rattle.config_match.specs.declared.kind.Kind.{Kind}
use Rattle.config_match.specs.declared.kind.Numbers.{Numbers}
use Rattle.config_match.specs.declared.rule.Rule.{Rule}
use Rattle.config_match.specs.Kind.{kind_answer}

abbrev pub at : Coord → Kind → Rule
at coord kind = record { kind = kind; coord = coord }

-- the second of two dimensions, beside the first; no other coordinate has one beside it
unfoldable pub beside : Coord → Coord
beside coords.WidthDp = coords.HeightDp
beside coords.Width = coords.Height
beside c = c

-- what a rule at a coordinate may look at
abbrev pub numbers_at : Coord → (Coord → ℕ) → Numbers
numbers_at c numbers = record { first = numbers c; second = numbers (beside c) }

-- what a rule says of two records at a device
unfoldable pub rule_answer : Rule → (Coord → ℕ) → (Coord → ℕ) → (Coord → ℕ) → Answer
rule_answer rule a b d = kind_answer rule.kind (numbers_at rule.coord a) (numbers_at rule.coord b) (numbers_at rule.coord d)
