-- Whether a rule decides between two records does not depend on their order.
use Rattle.std.proofs.Common.{◌≡◌, ℕ, ◌+◌, Bool, true, false, not, ◌&&◌, ◌||◌, ◌==◌, List, [], ◌∷◌, refl, sym, ap, ◌∙◌, arith}
use Rattle.std.specs.Prelude.{option_map}
use Rattle.std.specs.List.{list_all, position_from}
use Rattle.std.proofs.lemmas.Bool.{and_parts}
use Rattle.std.proofs.lemmas.Bool.Decides.{nat_tests}
use Rattle.std.proofs.lemmas.Iterator.Adapters.{position_from-zero}
use Rattle.config_match.specs.config_record.declared.coord.Coord.{Coord}
use Rattle.config_match.specs.config_record.declared.coord.Coord.TheVariants as coords
use Rattle.config_match.specs.declared.answer.Answer.{Answer}
use Rattle.config_match.specs.declared.answer.Answer.TheVariants.{Yes, No, Pass}
use Rattle.config_match.specs.Locale.{is_by_language_and_region}
use Rattle.config_match.specs.config_record.ComparedNumber.{record_number, device_number}
use Rattle.config_match.specs.declared.kind.Kind.{Kind}
use Rattle.config_match.specs.declared.kind.Kind.TheVariants as kinds
use Rattle.config_match.specs.declared.kind.Numbers.{Numbers}
use Rattle.config_match.specs.declared.rule.Rule.{Rule}
use Rattle.config_match.specs.Answer.{answer_where, is_pass, is_yes}
use Rattle.config_match.specs.Comparisons.{differ, is_given, locale_rank, locale_answer, rest_of_both, dimensions_answer}
use Rattle.config_match.specs.Kind.{kind_answer}
use Rattle.config_match.specs.Rule.{numbers_at, rule_answer}
use Rattle.config_match.specs.Table.{decides, place_of_table, keeps_out, place_keeping_out}
use Rattle.config_precedence.specs.Laws.{DecidesInEitherOrder, KeepsOutByDeciding}
use Rattle.config_precedence.specs.Precedence.{deciding_of, keeping_out_of}
use Rattle.config_precedence.specs.Rules.{all_rules}
use Rattle.config_precedence.proofs.Composition.{passes_alike}
use Rattle.config_precedence.proofs.Dimensions.{smaller-opposes}

-- ---- each kind of comparison

-- a kind that compares two records, and is no condition of one
abbrev is_comparison : Kind → Bool
is_comparison kinds.Equal = false
is_comparison kinds.AtMost = false
is_comparison kinds.KeysSuit = false
is_comparison kinds.LocaleSuits = false
is_comparison k = true

pass_where : (p q : Bool) → is_pass (answer_where p q) ≡ not p
pass_where true true = refl
pass_where true false = refl
pass_where false q = refl

where_decides : (p p' q q' : Bool) → p ≡ p' → is_pass (answer_where p q) ≡ is_pass (answer_where p' q')
where_decides p p' q q' e = pass_where p q ∙ ap not e ∙ sym (pass_where p' q')

differ_turned : (a b : ℕ) → differ a b ≡ differ b a
differ_turned a b = grind (arith, nat_tests)

differ_where : (a b : ℕ) (also q q' : Bool) → is_pass (answer_where (differ a b && also) q) ≡ is_pass (answer_where (differ b a && also) q')
differ_where a b also q q' = where_decides _ _ _ _ (ap (λ (p : Bool). p && also) (differ_turned a b))

keys_turned : (a b d : ℕ) → (differ a b && is_given d && (a == 0 || b == 0 || a == d || b == d)) ≡ (differ b a && is_given d && (b == 0 || a == 0 || b == d || a == d))
keys_turned a b d = grind (arith, nat_tests)

navigation_turned : (a b d : ℕ) → (differ a b && is_given d && (a == 0 || b == 0)) ≡ (differ b a && is_given d && (b == 0 || a == 0))
navigation_turned a b d = grind (arith, nat_tests)

rank_turned : (a b d : ℕ) → is_by_language_and_region d ≡ true → is_pass (locale_answer a b d) ≡ is_pass (locale_answer b a d)
unfolding locale_answer
rank_turned a b d plain = rw plain (where_decides _ _ _ _ (differ_turned (locale_rank a) (locale_rank b)))

kind_turned : (k : Kind) (a b d : Numbers) → is_comparison k ≡ true → (k ≡ kinds.LocaleRank → is_by_language_and_region d.first ≡ true) → is_pass (kind_answer k a b d) ≡ is_pass (kind_answer k b a d)
unfolding kind_answer dimensions_answer
kind_turned kinds.Given a b d e plain = differ_where a.first b.first (is_given d.first) _ _
kind_turned kinds.Larger a b d e plain = differ_where a.first b.first (is_given d.first) _ _
kind_turned kinds.AlwaysLarger a b d e plain = where_decides _ _ _ _ (differ_turned a.first b.first)
kind_turned kinds.LocaleRank a b d e plain = rank_turned a.first b.first d.first (plain refl)
kind_turned kinds.Dimensions a b d e plain =
    passes_alike _ _ (smaller-opposes (rest_of_both a d) (rest_of_both b d)).pass (smaller-opposes (rest_of_both b d) (rest_of_both a d)).pass
kind_turned kinds.ScreenSize a b d e plain = differ_where a.first b.first (is_given d.first) _ _
kind_turned kinds.Density a b d e plain = where_decides _ _ _ _ (differ_turned a.first b.first)
kind_turned kinds.KeysHidden a b d e plain = where_decides _ _ _ _ (keys_turned a.first b.first d.first)
kind_turned kinds.NavHidden a b d e plain = where_decides _ _ _ _ (navigation_turned a.first b.first d.first)
kind_turned kinds.Always a b d e plain = refl
kind_turned kinds.Equal a b d e plain = absurd cc
kind_turned kinds.AtMost a b d e plain = absurd cc
kind_turned kinds.KeysSuit a b d e plain = absurd cc
kind_turned kinds.LocaleSuits a b d e plain = absurd cc

-- ---- the table

-- a rule of locales stands at the locale
abbrev is_in_place : Kind → Coord → Bool
is_in_place kinds.LocaleRank coords.Locale = true
is_in_place kinds.LocaleRank c = false
is_in_place k c = true

at_locale : (k : Kind) (c : Coord) → is_in_place k c ≡ true → k ≡ kinds.LocaleRank → c ≡ coords.Locale
at_locale kinds.LocaleRank coords.Locale place is = refl
at_locale kinds.LocaleRank c place is = absurd cc
at_locale k c place is = absurd cc

abbrev compares : Rule → Bool
compares rule = is_comparison rule.kind && is_in_place rule.kind rule.coord

pass_turned : (rule : Rule) (a b d : Coord → ℕ) → compares rule ≡ true → is_by_language_and_region (d coords.Locale) ≡ true → is_pass (rule_answer rule a b d) ≡ is_pass (rule_answer rule b a d)
unfolding rule_answer
pass_turned rule a b d does plain =
    let parts = and_parts (is_comparison rule.kind) (is_in_place rule.kind rule.coord) does in
    kind_turned rule.kind (numbers_at rule.coord a) (numbers_at rule.coord b) (numbers_at rule.coord d) parts.0
    (λ is. ap (λ (c : Coord). is_by_language_and_region (d c)) (at_locale rule.kind rule.coord parts.1 is) ∙ plain)

decides_turned : (rule : Rule) (a b d : Coord → ℕ) → compares rule ≡ true → is_by_language_and_region (d coords.Locale) ≡ true → decides a b d rule ≡ decides b a d rule
decides_turned rule a b d does plain = ap not (pass_turned rule a b d does plain)

position_turned : (rules : List Rule) (n : ℕ) (a b d : Coord → ℕ) → list_all compares rules ≡ true → is_by_language_and_region (d coords.Locale) ≡ true
    → position_from (decides a b d) n rules ≡ position_from (decides b a d) n rules
position_turned [] n a b d all plain = refl
position_turned (rule ∷ rules) n a b d all plain =
    let parts = and_parts _ _ all in
    rw (decides_turned rule a b d parts.0 plain, position_turned rules (n + 1) a b d parts.1 plain) refl

place_turned : (rules : List Rule) (a b d : Coord → ℕ) → list_all compares rules ≡ true → is_by_language_and_region (d coords.Locale) ≡ true → place_of_table rules a b d ≡ place_of_table rules b a d
place_turned rules a b d all plain = position_from-zero (decides a b d) rules ∙ position_turned rules 0 a b d all plain ∙ sym (position_from-zero (decides b a d) rules)

pub either_order : (a b d : List ℕ) → DecidesInEitherOrder a b d
unfolding deciding_of all_rules
either_order a b d plain = ap (option_map (λ place. place + 1)) (place_turned all_rules (record_number a) (record_number b) (device_number d) refl plain)

-- ---- what keeps a record out is what decides

keeps_where : (x y : Answer) → is_pass x ≡ is_pass y → (not (is_pass x) || is_yes y) ≡ not (is_pass x)
keeps_where Pass Pass same = refl
keeps_where Pass Yes same = absurd cc
keeps_where Pass No same = absurd cc
keeps_where Yes y same = refl
keeps_where No y same = refl

position_kept : (rules : List Rule) (n : ℕ) (a b d : Coord → ℕ) → list_all compares rules ≡ true → is_by_language_and_region (d coords.Locale) ≡ true
    → position_from (keeps_out a b d) n rules ≡ position_from (decides a b d) n rules
position_kept [] n a b d all plain = refl
position_kept (rule ∷ rules) n a b d all plain =
    let parts = and_parts _ _ all in
    rw (keeps_where (rule_answer rule a b d) (rule_answer rule b a d) (pass_turned rule a b d parts.0 plain), position_kept rules (n + 1) a b d parts.1 plain) refl

place_kept : (rules : List Rule) (a b d : Coord → ℕ) → list_all compares rules ≡ true → is_by_language_and_region (d coords.Locale) ≡ true → place_keeping_out rules a b d ≡ place_of_table rules a b d
place_kept rules a b d all plain = position_from-zero (keeps_out a b d) rules ∙ position_kept rules 0 a b d all plain ∙ sym (position_from-zero (decides a b d) rules)

pub keeps_out_by_deciding : (a b d : List ℕ) → KeepsOutByDeciding a b d
unfolding deciding_of keeping_out_of all_rules
keeps_out_by_deciding a b d plain = ap (option_map (λ place. place + 1)) (place_kept all_rules (record_number a) (record_number b) (device_number d) refl plain)
