use Rattle.std.proofs.Common.{ℕ, ◌<◌, ◌≢◌, get_or}
use Rattle.config_precedence.specs.config_record.Record.{record_bytes}
use Rattle.config_precedence.specs.config_record.ComparedNumber.{record_number}
use Rattle.box_answers.specs.NumberSet.{set_of}
use Rattle.box_answers.specs.TriedNumbers.{tried_numbers}
use Rattle.box_answers.specs.Changes.{answer_at}
use Rattle.box_answers.proofs.rule_search.RuleSearch.find_by_one.Given as goal

-- at none of the numbers so far the rule says what is wanted
abbrev pub invariant-loop-place : goal.invariant-loop-place
invariant-loop-place l =
    (k : ℕ) → k < l.place → answer_at l.self.rule (record_number (record_bytes l.self.a)) (record_number (record_bytes l.self.b)) (get_or (tried_numbers (set_of l.set) l.a l.b) k 0) 0 ≢ l.want
