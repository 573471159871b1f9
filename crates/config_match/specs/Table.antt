-- Tables of rules. The first rule that does not pass decides.
use Rattle.std.specs.Prelude.{ℕ, ◌||◌, Bool, not, List, [], ◌∷◌, Option, position, find}
use Rattle.config_record.specs.declared.coord.Coord.{Coord}
use Rattle.config_match.specs.declared.answer.Answer.{Answer}
use Rattle.config_match.specs.declared.answer.Answer.TheVariants.{Pass}
use Rattle.config_match.specs.declared.rule.Rule.{Rule}
use Rattle.config_match.specs.Answer.{is_pass, is_yes, or_else}
use Rattle.config_match.specs.Rule.{rule_answer}

-- what that rule says; nothing where all pass
abbrev pub answer_of_table : List Rule → (Coord → ℕ) → (Coord → ℕ) → (Coord → ℕ) → Answer
answer_of_table [] a b d = Pass
answer_of_table (rule ∷ rules) a b d = or_else (rule_answer rule a b d) (answer_of_table rules a b d)

abbrev pub decides : (Coord → ℕ) → (Coord → ℕ) → (Coord → ℕ) → Rule → Bool
decides a b d rule = not (is_pass (rule_answer rule a b d))

-- that rule
abbrev pub rule_of_table : List Rule → (Coord → ℕ) → (Coord → ℕ) → (Coord → ℕ) → Option Rule
rule_of_table rules a b d = find (decides a b d) rules

-- its place in the table
abbrev pub place_of_table : List Rule → (Coord → ℕ) → (Coord → ℕ) → (Coord → ℕ) → Option ℕ
place_of_table rules a b d = position (decides a b d) rules

-- it decides between a and b, or b is better than a by it: on a phone P3 says nothing where a is not better
abbrev pub keeps_out : (Coord → ℕ) → (Coord → ℕ) → (Coord → ℕ) → Rule → Bool
keeps_out a b d rule = decides a b d rule || is_yes (rule_answer rule b a d)

-- the place of the first that does
abbrev pub place_keeping_out : List Rule → (Coord → ℕ) → (Coord → ℕ) → (Coord → ℕ) → Option ℕ
place_keeping_out rules a b d = position (keeps_out a b d) rules
