-- What is asked of the members of a box: is the first of two records better, by a table of rules?
use Rattle.std.specs.Prelude.{ℕ, Bool, List}
use Rattle.config_precedence.specs.config_record.ComparedNumber.{record_number, device_number}
use Rattle.config_precedence.specs.config_record.Record.{record_bytes}
use Rattle.config_precedence.specs.config_match.declared.answer.Answer.{Answer}
use Rattle.config_precedence.specs.config_match.Answer.{is_yes}
use Rattle.config_precedence.specs.config_match.Table.{answer_of_table}
use Rattle.box_answers.specs.declared.question.Question.{Question}

abbrev pub table_says : Question → List ℕ → Answer
table_says q d = answer_of_table q.rules.now (record_number (record_bytes q.a)) (record_number (record_bytes q.b)) (device_number d)

-- the answer at a device
abbrev pub answered : Question → List ℕ → Bool
answered q d = is_yes (table_says q d)
