-- What holds at each coordinate of a record that matches a device.
use Rattle.std.proofs.Common.{◌≡◌, ℕ, Bool, true, false, List, [], ◌∷◌, refl, lit<}
use Rattle.std.specs.Prelude.{slice_index_or}
use Rattle.std.specs.List.{All, AllByRecursion}
use Rattle.std.proofs.lemmas.List.Elements.{All-from_recursion}
use Rattle.config_match.specs.config_record.declared.coord.Coord.{Coord}
use Rattle.config_match.specs.config_record.declared.coord.Coord.TheVariants as coords
use Rattle.config_match.specs.config_record.Coord.{place_of}
use Rattle.config_match.specs.config_record.ComparedNumber.{record_number, device_number}
use Rattle.config_match.specs.declared.answer.Answer.{Answer}
use Rattle.config_match.specs.declared.answer.Answer.TheVariants.{Yes, No, Pass}
use Rattle.config_match.specs.declared.kind.Kind.{Kind}
use Rattle.config_match.specs.declared.kind.Kind.TheVariants as kinds
use Rattle.config_match.specs.declared.rule.Rule.{Rule}
use Rattle.config_match.specs.Answer.{answer_of_condition, is_pass, or_else}
use Rattle.config_match.specs.Condition.{is_equal, is_at_most, keys_suit}
use Rattle.config_match.specs.Kind.{kind_answer}
use Rattle.config_match.specs.Rule.{at, rule_answer}
use Rattle.config_match.specs.Table.{answer_of_table}
use Rattle.config_match.specs.Conditions.{all_conditions}
use Rattle.config_match.specs.Matching.{is_match}

-- the kind of condition in the table's row of a coordinate
unfoldable pub kind_at : Coord → Kind
kind_at c = (slice_index_or all_conditions (place_of c) (at c kinds.Always)).kind

-- the condition at each coordinate holds
abbrev pub Suits : (Coord → ℕ) → (Coord → ℕ) → Type 0
Suits r d = (c : Coord) → rule_answer (at c (kind_at c)) r r d ≡ Pass

both_pass : (x y : Answer) → is_pass (or_else x y) ≡ true → (x ≡ Pass) × (is_pass y ≡ true)
both_pass Yes y h = absurd cc
both_pass No y h = absurd cc
both_pass Pass y h = (refl, h)

each_passes : (rules : List Rule) (a b d : Coord → ℕ) → is_pass (answer_of_table rules a b d) ≡ true → AllByRecursion (λ rule. rule_answer rule a b d ≡ Pass) rules
each_passes [] a b d h = tt
each_passes (rule ∷ rules) a b d h = let e = both_pass (rule_answer rule a b d) _ h in (e.0, each_passes rules a b d e.1)

suits : (r d : Coord → ℕ) → is_pass (answer_of_table all_conditions r r d) ≡ true → Suits r d
unfolding kind_at all_conditions place_of
suits r d h = at_each (All-from_recursion (λ rule. rule_answer rule r r d ≡ Pass) all_conditions (each_passes all_conditions r r d h))
  where
    at_each : All (λ rule. rule_answer rule r r d ≡ Pass) all_conditions → (c : Coord) → rule_answer (at c (kind_at c)) r r d ≡ Pass
    at_each all coords.Mcc = all 0 (at coords.Mcc kinds.Always) (lit< tt)
    at_each all c = all (place_of c) (at c kinds.Always) (lit< tt)

pub match_suits : (r d : List ℕ) → is_match r d ≡ true → Suits (record_number r) (device_number d)
unfolding is_match
match_suits r d h = suits _ _ h

-- ---- what that says of the numbers

holds : (b : Bool) → answer_of_condition b ≡ Pass → b ≡ true
holds true h = refl
holds false h = absurd cc

pub equal_suits : (c : Coord) (r d : Coord → ℕ) → kind_at c ≡ kinds.Equal → Suits r d → is_equal (r c) (d c) ≡ true
unfolding rule_answer kind_answer
equal_suits c r d e s = let h : rule_answer (at c kinds.Equal) r r d ≡ Pass = rw e at (s c) in holds (is_equal (r c) (d c)) h

pub at_most_suits : (c : Coord) (r d : Coord → ℕ) → kind_at c ≡ kinds.AtMost → Suits r d → is_at_most (r c) (d c) ≡ true
unfolding rule_answer kind_answer
at_most_suits c r d e s = let h : rule_answer (at c kinds.AtMost) r r d ≡ Pass = rw e at (s c) in holds (is_at_most (r c) (d c)) h

pub keys_suits : (c : Coord) (r d : Coord → ℕ) → kind_at c ≡ kinds.KeysSuit → Suits r d → keys_suit (r c) (d c) ≡ true
unfolding rule_answer kind_answer
keys_suits c r d e s = let h : rule_answer (at c kinds.KeysSuit) r r d ≡ Pass = rw e at (s c) in holds (keys_suit (r c) (d c)) h
