-- Nothing fails exactly where a record matches.
use Rattle.std.proofs.Common.{◌≡◌, Bool, true, false, if◌then◌else◌, ℕ, ◌<◌, List, length, slice_index_or, Option, Some, None, is_none, refl, sym, ap, ◌∙◌}
use Rattle.std.specs.Prelude.{option_and_then, option_map, slice_get}
use Rattle.config_match.specs.config_record.ComparedNumber.{record_number, device_number}
use Rattle.config_match.specs.declared.rule.Rule.{Rule}
use Rattle.config_match.specs.Answer.{is_pass}
use Rattle.config_match.specs.Table.{answer_of_table, rule_of_table, place_of_table}
use Rattle.config_match.proofs.TableLemmas.{no_rule, rule_there, rule_at_place}
use Rattle.config_match.specs.declared.reason.Mismatch.TheVariants.{SetAside, At}
use Rattle.config_match.specs.Conditions.{all_conditions}
use Rattle.config_match.specs.Matching.{is_match, is_set_aside_at, mismatch_at, mismatch_of}
use Rattle.config_match.proofs.SetAside.{no_match_aside}

by_rule : (set_aside : Bool) (rule : Option Rule) (passes : Bool) → is_none rule ≡ passes → (set_aside ≡ true → passes ≡ false)
    → is_none (if set_aside then Some SetAside else option_map mismatch_at rule) ≡ passes
by_rule true rule passes e aside = sym (aside refl)
by_rule false None passes e aside = e
by_rule false (Some rule) passes e aside = e

pub no_mismatch : (r d : List ℕ) → is_none (mismatch_of r d) ≡ is_match r d
unfolding mismatch_of is_match
no_mismatch r d =
    by_rule (is_set_aside_at r d) (rule_of_table all_conditions (record_number r) (record_number r) (device_number d))
    (is_pass (answer_of_table all_conditions (record_number r) (record_number r) (device_number d)))
    (no_rule all_conditions (record_number r) (record_number r) (device_number d))
    (no_match_aside r d)

-- the rule that decides is the one at its place
pub mismatch_there : (r d : List ℕ) (table : List Rule) (place : ℕ) (otherwise : Rule) → table ≡ all_conditions → is_set_aside_at r d ≡ false
    → Some place ≡ place_of_table table (record_number r) (record_number r) (device_number d) → place < length table → Some (At (slice_index_or table place otherwise).coord) ≡ mismatch_of r d
unfolding mismatch_of
mismatch_there r d table place otherwise same whole at within =
    rw whole
    (ap (option_map mismatch_at) (rule_at_place table _ _ _ place otherwise at within) ∙ ap (λ (rules : List Rule). option_map mismatch_at (rule_of_table rules (record_number r) (record_number r) (device_number d))) same)

pub mismatch_nowhere : (r d : List ℕ) (table : List Rule) → table ≡ all_conditions → is_set_aside_at r d ≡ false → None ≡ place_of_table table (record_number r) (record_number r) (device_number d) → None ≡ mismatch_of r d
unfolding mismatch_of
mismatch_nowhere r d table same whole at =
    rw whole
    (ap (option_map mismatch_at) (ap (option_and_then (slice_get table)) at ∙ sym (rule_there table (record_number r) (record_number r) (device_number d)))
    ∙ ap (λ (rules : List Rule). option_map mismatch_at (rule_of_table rules (record_number r) (record_number r) (device_number d))) same)
