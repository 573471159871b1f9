-- The search for a member of which one rule says something.
use Rattle.std.specs.Prelude.{ℕ, List, [], ◌∷◌, IsTrue}
use Rattle.config_precedence.specs.config_record.Record.{record_bytes}
use Rattle.config_precedence.specs.config_record.ComparedNumber.{record_number, device_number}
use Rattle.config_precedence.specs.config_record.DeviceSeen.{device_numbers}
use Rattle.config_precedence.specs.config_match.declared.answer.Answer.{Answer}
use Rattle.config_precedence.specs.config_match.Rule.{rule_answer}
use Rattle.config_precedence.specs.config_match.Reads.{AreReadInOrder}
use Rattle.box_answers.specs.declared.rule_search.RuleSearch.{RuleSearch}
use Rattle.box_answers.specs.Members.{sets_of, IsMember, IsBox}
use Rattle.box_answers.specs.TriedNumbers.{stands_in_place}
use Rattle.box_answers.specs.Changes.{ChangesTo, IsNowhere, answer_at}

-- it starts at a member
pub record IsSearch (s : RuleSearch) : Type 0 where
  pub sets : IsBox (sets_of s.sets.now)
  pub member : IsMember (sets_of s.sets.now) (device_numbers s.from)
  pub in_order : AreReadInOrder (s.rule ∷ [])
  pub in_place : IsTrue (stands_in_place s.rule.kind s.rule.coord)

-- what the rule says at a device
abbrev pub rule_says : RuleSearch → List ℕ → Answer
rule_says s d = rule_answer s.rule (record_number (record_bytes s.a)) (record_number (record_bytes s.b)) (device_number d)

-- what it says at that member, where this is the number at the second coordinate
abbrev pub says_beside : RuleSearch → ℕ → Answer
says_beside s n = answer_at s.rule (record_number (record_bytes s.a)) (record_number (record_bytes s.b)) (device_number (device_numbers s.from) s.rule.coord) n

-- a member that was found
abbrev pub IsFound : RuleSearch → Answer → List ℕ → Type 0
IsFound s want d = ChangesTo (sets_of s.sets.now) s.rule (record_number (record_bytes s.a)) (record_number (record_bytes s.b)) (device_numbers s.from) want d

-- there is none, wherever the search starts
abbrev pub IsNotFound : RuleSearch → Answer → Type 0
IsNotFound s want = IsNowhere (sets_of s.sets.now) s.rule (record_number (record_bytes s.a)) (record_number (record_bytes s.b)) want
