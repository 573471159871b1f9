-- Which of two records is better at a device? A record is the list of its bytes, a device that of its numbers.
use Rattle.std.specs.Prelude.{ℕ, ◌+◌, Bool, List, Option, option_map}
use Rattle.config_match.specs.config_record.ComparedNumber.{record_number, device_number}
use Rattle.config_match.specs.Answer.{is_yes}
use Rattle.config_match.specs.Table.{answer_of_table, place_of_table, place_keeping_out}
use Rattle.config_precedence.specs.Rules.{all_rules}

-- the first rule that decides says yes
unfoldable pub is_better : List ℕ → List ℕ → List ℕ → Bool
is_better a b d = is_yes (answer_of_table all_rules (record_number a) (record_number b) (device_number d))

-- the number of that rule
unfoldable pub deciding_of : List ℕ → List ℕ → List ℕ → Option ℕ
deciding_of a b d = option_map (λ place. place + 1) (place_of_table all_rules (record_number a) (record_number b) (device_number d))

-- The number of the rule that keeps a out, where it is not better: the first that decides, or by which b is better than a.
unfoldable pub keeping_out_of : List ℕ → List ℕ → List ℕ → Option ℕ
keeping_out_of a b d = option_map (λ place. place + 1) (place_keeping_out all_rules (record_number a) (record_number b) (device_number d))
