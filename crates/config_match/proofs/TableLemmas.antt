-- No rule of a table decides exactly where all pass, and the one that decides stands at its place.
use Rattle.std.proofs.Common.{◌≡◌, ℕ, suc, ◌+◌, add-one, Bool, true, false, nat_lt, not, cond, List, [], ◌∷◌, length, get_or, drop, drop-cons, Option, Some, None, is_none, ◌<◌, ◌≤◌, slice_index_or, refl, sym, ap, ◌∙◌}
use Rattle.std.specs.Prelude.{option_and_then, slice_get, position, find}
use Rattle.std.proofs.lemmas.Bool.{ltb-false}
use Rattle.std.proofs.lemmas.Iterator.Adapters.{position_from-zero}
use Rattle.std.proofs.lemmas.List.{drop_all}
use Rattle.std.proofs.lemmas.List.Folds.{find_at}
use Rattle.std.proofs.lemmas.Option.{slice_get_past, slice_get-get_or}
use Rattle.std.specs.List.{position_from, position_or_len}
use Rattle.config_record.specs.declared.coord.Coord.{Coord}
use Rattle.config_match.specs.declared.answer.Answer.{Answer}
use Rattle.config_match.specs.declared.answer.Answer.TheVariants.{Yes, No, Pass}
use Rattle.config_match.specs.declared.rule.Rule.{Rule}
use Rattle.config_match.specs.Answer.{is_pass, or_else}
use Rattle.config_match.specs.Rule.{rule_answer}
use Rattle.config_match.specs.Table.{answer_of_table, rule_of_table, place_of_table, decides}

step : {A : Type 0} (x next : Answer) (found : A) (others : Option A) → is_none others ≡ is_pass next → is_none (cond (not (is_pass x)) (Some found) others) ≡ is_pass (or_else x next)
step Yes next found others h = refl
step No next found others h = refl
step Pass next found others h = h

pub no_rule : (rules : List Rule) (a b d : Coord → ℕ) → is_none (rule_of_table rules a b d) ≡ is_pass (answer_of_table rules a b d)
no_rule [] a b d = refl
no_rule (rule ∷ rules) a b d = step (rule_answer rule a b d) (answer_of_table rules a b d) rule (rule_of_table rules a b d) (no_rule rules a b d)

no_place_from : (rules : List Rule) (place : ℕ) (a b d : Coord → ℕ) → is_none (position_from (decides a b d) place rules) ≡ is_pass (answer_of_table rules a b d)
no_place_from [] place a b d = refl
no_place_from (rule ∷ rules) place a b d =
    step (rule_answer rule a b d) (answer_of_table rules a b d) place (position_from (decides a b d) (place + 1) rules) (no_place_from rules (place + 1) a b d)

pub no_place : (rules : List Rule) (a b d : Coord → ℕ) → is_none (place_of_table rules a b d) ≡ is_pass (answer_of_table rules a b d)
no_place rules a b d = ap is_none (position_from-zero (decides a b d) rules) ∙ no_place_from rules 0 a b d

find-position : {X : Type 0} (p : X → Bool) (xs : List X) → find p xs ≡ option_and_then (slice_get xs) (position p xs)
find-position p xs = find_at p xs ∙ placed (nat_lt (position_or_len p xs) (length xs)) refl
  where
    placed : (within : Bool) → nat_lt (position_or_len p xs) (length xs) ≡ within
        → slice_get xs (position_or_len p xs) ≡ option_and_then (slice_get xs) (cond within (Some (position_or_len p xs)) None)
    placed true e = refl
    placed false e = slice_get_past xs (position_or_len p xs) (ltb-false (position_or_len p xs) (length xs) e)

pub rule_there : (rules : List Rule) (a b d : Coord → ℕ) → rule_of_table rules a b d ≡ option_and_then (slice_get rules) (place_of_table rules a b d)
rule_there rules a b d = find-position (decides a b d) rules

pub rule_at_place : (rules : List Rule) (a b d : Coord → ℕ) (place : ℕ) (otherwise : Rule) → Some place ≡ place_of_table rules a b d → place < length rules
    → Some (slice_index_or rules place otherwise) ≡ rule_of_table rules a b d
rule_at_place rules a b d place otherwise e within =
    sym (slice_get-get_or rules place otherwise within) ∙ ap (option_and_then (slice_get rules)) e ∙ sym (rule_there rules a b d)

-- ---- the place, rule by rule

from-here : (test : Rule → Bool) (table : List Rule) (place : ℕ) (otherwise : Rule) (says : Bool) → place < length table → test (get_or table place otherwise) ≡ says
    → position_from test place (drop place table) ≡ position_from test 0 table → cond says (Some place) (position_from test (place + 1) (drop (suc place) table)) ≡ position_from test 0 table
from-here test table place otherwise says within tells so_far =
    sym (ap (position_from test place) (drop-cons table place otherwise within) ∙ ap (λ (b : Bool). cond b (Some place) (position_from test (place + 1) (drop (suc place) table))) tells) ∙ so_far

pub stands-here : (test : Rule → Bool) (table : List Rule) (place : ℕ) (otherwise : Rule) → place < length table → test (get_or table place otherwise) ≡ true
    → position_from test place (drop place table) ≡ position_from test 0 table → Some place ≡ position test table
stands-here test table place otherwise within tells so_far = from-here test table place otherwise true within tells so_far ∙ sym (position_from-zero test table)

pub stands-behind : (test : Rule → Bool) (table : List Rule) (place : ℕ) (otherwise : Rule) → place < length table → test (get_or table place otherwise) ≡ false
    → position_from test place (drop place table) ≡ position_from test 0 table → position_from test (place + 1) (drop (place + 1) table) ≡ position_from test 0 table
stands-behind test table place otherwise within tells so_far =
    ap (λ (n : ℕ). position_from test (place + 1) (drop n table)) (add-one place) ∙ from-here test table place otherwise false within tells so_far

pub stands-nowhere : (test : Rule → Bool) (table : List Rule) (place : ℕ) → length table ≤ place → position_from test place (drop place table) ≡ position_from test 0 table → None ≡ position test table
stands-nowhere test table place end so_far = sym (ap (position_from test place) (drop_all place table end)) ∙ so_far ∙ sym (position_from-zero test table)

pub answers : (x found : Answer) (passes says : Bool) → found ≡ x → passes ≡ is_pass found → passes ≡ says → not (is_pass x) ≡ not says
answers x found passes says is tells e = ap not (ap is_pass (sym is) ∙ sym tells ∙ e)
