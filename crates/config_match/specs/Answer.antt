-- What rules say of two records at a device: yes, the first is better; no, it is not; or nothing.
use Rattle.std.specs.Prelude.{Bool, true, false}
use Rattle.config_match.specs.declared.answer.Answer.{Answer}
use Rattle.config_match.specs.declared.answer.Answer.TheVariants.{Yes, No, Pass}

-- the answer of a rule that decides in some cases alone, and says there whether the first is better
abbrev pub answer_where : Bool → Bool → Answer
answer_where true true = Yes
answer_where true false = No
answer_where false better = Pass

-- the answer of a condition: no where it fails
abbrev pub answer_of_condition : Bool → Answer
answer_of_condition true = Pass
answer_of_condition false = No

abbrev pub is_yes : Answer → Bool
is_yes Yes = true
is_yes No = false
is_yes Pass = false

abbrev pub is_pass : Answer → Bool
is_pass Yes = false
is_pass No = false
is_pass Pass = true

-- an answer, or where that passes the next one
abbrev pub or_else : Answer → Answer → Answer
or_else Yes next = Yes
or_else No next = No
or_else Pass next = next
