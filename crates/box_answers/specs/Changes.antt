-- Members that are found by a change of another member.
use Rattle.std.specs.Prelude.{◌≡◌, ◌≢◌, ℕ, ◌<◌, List}
use Rattle.config_precedence.specs.config_record.declared.coord.Coord.{Coord}
use Rattle.config_precedence.specs.config_record.Coord.{place_of}
use Rattle.config_precedence.specs.config_record.ComparedNumber.{device_number}
use Rattle.config_precedence.specs.config_match.declared.answer.Answer.{Answer}
use Rattle.config_precedence.specs.config_match.declared.answer.Answer.TheVariants.{Pass}
use Rattle.config_precedence.specs.config_match.declared.rule.Rule.{Rule}
use Rattle.config_precedence.specs.config_match.Kind.{kind_answer}
use Rattle.config_precedence.specs.config_match.Rule.{numbers_at, rule_answer}
use Rattle.box_answers.specs.NumberSet.{SetOf}
use Rattle.box_answers.specs.Members.{IsMember}

-- what a rule says where these are the device's numbers at what it reads
abbrev pub answer_at : Rule → (Coord → ℕ) → (Coord → ℕ) → ℕ → ℕ → Answer
answer_at rule a b n m = kind_answer rule.kind (numbers_at rule.coord a) (numbers_at rule.coord b) (record { first = n; second = m })

-- the rule says nothing, whatever the device
abbrev pub PassesEverywhere : Rule → (Coord → ℕ) → (Coord → ℕ) → Type 0
PassesEverywhere rule a b = (d : Coord → ℕ) → rule_answer rule a b d ≡ Pass

-- two devices have the same numbers at all coordinates before a place
abbrev pub AgreeBelow : ℕ → List ℕ → List ℕ → Type 0
AgreeBelow place x y = (c : Coord) → place_of c < place → device_number x c ≡ device_number y c

-- d is a member of which the rule says what is wanted, and agrees with another at the coordinates before the rule's
pub record ChangesTo (sets : List SetOf) (rule : Rule) (a b : Coord → ℕ) (from : List ℕ) (want : Answer) (d : List ℕ) : Type 0 where
  pub member : IsMember sets d
  pub answer : rule_answer rule a b (device_number d) ≡ want
  pub before : AgreeBelow (place_of rule.coord) d from

-- of no member does the rule say it
abbrev pub IsNowhere : List SetOf → Rule → (Coord → ℕ) → (Coord → ℕ) → Answer → Type 0
IsNowhere sets rule a b want = (d : List ℕ) → IsMember sets d → rule_answer rule a b (device_number d) ≢ want
