-- Densities of 0 and 160 where no earlier rule decides.
use Rattle.std.proofs.Common.{◌≡◌, ℕ, ◌+◌, Bool, true, false, not, nat_le, cond, List, [], ◌∷◌, ◌++◌, length, ◌<◌, take, drop, Option, Some, None, refl, sym, ap, ◌∙◌, arith}
use Rattle.std.specs.Prelude.{option_map}
use Rattle.std.specs.List.{position_from}
use Rattle.std.proofs.lemmas.Bool.Decides.{nat_tests}
use Rattle.std.proofs.lemmas.Iterator.Adapters.{position_from-zero}
use Rattle.config_match.specs.config_record.declared.coord.Coord.{Coord}
use Rattle.config_match.specs.config_record.declared.coord.Coord.TheVariants as coords
use Rattle.config_match.specs.config_record.ComparedNumber.{record_number, device_number}
use Rattle.config_match.specs.config_record.Record.{coordinate, density}
use Rattle.config_match.specs.declared.answer.Answer.{Answer}
use Rattle.config_match.specs.declared.answer.Answer.TheVariants.{Yes, No, Pass}
use Rattle.config_match.specs.declared.kind.Kind.TheVariants as kinds
use Rattle.config_match.specs.declared.rule.Rule.{Rule}
use Rattle.config_match.specs.Answer.{is_pass, is_yes, or_else}
use Rattle.config_match.specs.Comparisons.{medium_density}
use Rattle.config_match.specs.Kind.{kind_answer}
use Rattle.config_match.specs.Rule.{at, rule_answer}
use Rattle.config_match.specs.Table.{answer_of_table, place_of_table, decides}
use Rattle.config_precedence.specs.Laws.{densities_tie, density_rule, BothOrNeitherIsBetter}
use Rattle.config_precedence.specs.Precedence.{is_better, deciding_of}
use Rattle.config_precedence.specs.Rules.{all_rules}
use Rattle.config_precedence.proofs.Densities.{tie, tie-decides, tie-yes}
use Rattle.config_precedence.proofs.EitherOrder.{either_order}

-- ---- a table is its first rules and the others

pub answer-append : (first others : List Rule) (a b d : Coord → ℕ) → answer_of_table (first ++ others) a b d ≡ or_else (answer_of_table first a b d) (answer_of_table others a b d)
answer-append [] others a b d = refl
answer-append (rule ∷ first) others a b d = joined (rule_answer rule a b d) (answer-append first others a b d)
  where
    joined : (x : Answer) → answer_of_table (first ++ others) a b d ≡ or_else (answer_of_table first a b d) (answer_of_table others a b d)
        → or_else x (answer_of_table (first ++ others) a b d) ≡ or_else (or_else x (answer_of_table first a b d)) (answer_of_table others a b d)
    joined Yes e = refl
    joined No e = refl
    joined Pass e = e

behind_step : (x first : Answer) (n k : ℕ) (rest : Option ℕ) → is_pass (or_else x first) ≡ true → (is_pass first ≡ true → rest ≡ Some k) → cond (not (is_pass x)) (Some n) rest ≡ Some k
behind_step Yes first n k rest pass others = absurd cc
behind_step No first n k rest pass others = absurd cc
behind_step Pass first n k rest pass others = others pass

-- where all of the first pass, a rule behind them that decides stands where they end
decides_behind : (first others : List Rule) (rule : Rule) (n k : ℕ) (a b d : Coord → ℕ) → k ≡ n + length first → is_pass (answer_of_table first a b d) ≡ true → decides a b d rule ≡ true
    → position_from (decides a b d) n (first ++ rule ∷ others) ≡ Some k
decides_behind [] others rule n k a b d at pass does = let here : n ≡ k = omega arith in rw (does, here) refl
decides_behind (r ∷ first) others rule n k a b d at pass does =
    behind_step (rule_answer r a b d) (answer_of_table first a b d) n k _ pass (λ rest. decides_behind first others rule (n + 1) k a b d (omega arith) rest does)

before_step : (x first : Answer) (n k m : ℕ) (rest : Option ℕ) → is_pass (or_else x first) ≡ false → cond (not (is_pass x)) (Some n) rest ≡ Some k → n < m
    → (is_pass first ≡ false → rest ≡ Some k → k < m) → k < m
before_step Yes first n k m rest some at low others = let same : n ≡ k = cc in omega arith
before_step No first n k m rest some at low others = let same : n ≡ k = cc in omega arith
before_step Pass first n k m rest some at low others = others some at

-- where one of the first decides, it stands among them
decides_before : (first others : List Rule) (n k : ℕ) (a b d : Coord → ℕ) → is_pass (answer_of_table first a b d) ≡ false
    → position_from (decides a b d) n (first ++ others) ≡ Some k → k < n + length first
decides_before [] others n k a b d some at = absurd cc
decides_before (r ∷ first) others n k a b d some at =
    before_step (rule_answer r a b d) (answer_of_table first a b d) n k (n + length (r ∷ first)) _ some at (omega arith)
    (λ rest there. let below = decides_before first others (n + 1) k a b d rest there in omega arith)

-- ---- the rules before that of density, and those behind it

abbrev pub earlier_rules : List Rule
earlier_rules = take 14 all_rules

abbrev pub by_density : Rule
by_density = at coords.Density kinds.Density

abbrev pub later_rules : List Rule
later_rules = drop 15 all_rules

parted : all_rules ≡ earlier_rules ++ by_density ∷ later_rules
unfolding all_rules
parted = refl

fourteen : length earlier_rules ≡ 14
unfolding all_rules
fourteen = refl

pub answer-parted : (a b d : Coord → ℕ) → answer_of_table all_rules a b d ≡ or_else (answer_of_table earlier_rules a b d) (or_else (rule_answer by_density a b d) (answer_of_table later_rules a b d))
answer-parted a b d = ap (λ (rules : List Rule). answer_of_table rules a b d) parted ∙ answer-append earlier_rules (by_density ∷ later_rules) a b d

place-parted : (a b d : Coord → ℕ) → place_of_table all_rules a b d ≡ position_from (decides a b d) 0 (earlier_rules ++ by_density ∷ later_rules)
place-parted a b d = position_from-zero (decides a b d) all_rules ∙ ap (λ (rules : List Rule). position_from (decides a b d) 0 rules) parted

-- ---- two densities that tie

density_decides : (a b d : Coord → ℕ) → tie (a coords.Density) (b coords.Density) ≡ true → is_pass (rule_answer by_density a b d) ≡ false
unfolding rule_answer kind_answer
density_decides a b d e = tie-decides (a coords.Density) (b coords.Density) (d coords.Density) e

density_yes : (a b d : Coord → ℕ) → tie (a coords.Density) (b coords.Density) ≡ true → is_yes (rule_answer by_density a b d) ≡ nat_le medium_density (d coords.Density)
unfolding rule_answer kind_answer
density_yes a b d e = tie-yes (a coords.Density) (b coords.Density) (d coords.Density) e

-- ---- whether the rule of density decides

of_place : (o : Option ℕ) (k : ℕ) → option_map (λ place. place + 1) o ≡ Some (k + 1) → o ≡ Some k
of_place None k e = absurd cc
of_place (Some place) k e = let same : place + 1 ≡ k + 1 = cc in let p : place ≡ k = omega arith in ap (λ (n : ℕ). Some n) p

-- no earlier rule decides
pub earlier_pass : (a b d : List ℕ) → deciding_of a b d ≡ Some density_rule → is_pass (answer_of_table earlier_rules (record_number a) (record_number b) (device_number d)) ≡ true
unfolding deciding_of
earlier_pass a b d e = cases (is_pass (answer_of_table earlier_rules A B D)) refl
  where
    A : Coord → ℕ
    A = record_number a

    B : Coord → ℕ
    B = record_number b

    D : Coord → ℕ
    D = device_number d

    cases : (p : Bool) → is_pass (answer_of_table earlier_rules A B D) ≡ p → p ≡ true
    cases true pass = refl
    cases false some =
        let at : position_from (decides A B D) 0 (earlier_rules ++ by_density ∷ later_rules) ≡ Some 14 = sym (place-parted A B D) ∙ of_place (place_of_table all_rules A B D) 14 e in
        let below = decides_before earlier_rules (by_density ∷ later_rules) 0 14 A B D some at in
        absurd (omega (arith, fourteen))

pub deciding-tie : (a b d : List ℕ) → tie (record_number a coords.Density) (record_number b coords.Density) ≡ true
    → is_pass (answer_of_table earlier_rules (record_number a) (record_number b) (device_number d)) ≡ true → deciding_of a b d ≡ Some density_rule
unfolding deciding_of
deciding-tie a b d tied pass =
    let does : decides (record_number a) (record_number b) (device_number d) by_density ≡ true = ap not (density_decides (record_number a) (record_number b) (device_number d) tied) in
    let behind = decides_behind earlier_rules later_rules by_density 0 14 (record_number a) (record_number b) (device_number d) (omega (arith, fourteen)) pass does in
    ap (option_map (λ place. place + 1)) (place-parted (record_number a) (record_number b) (device_number d) ∙ behind)

-- ---- both are better, or neither is

behind_passes : (x y z : Answer) → is_pass x ≡ true → is_pass y ≡ false → is_yes (or_else x (or_else y z)) ≡ is_yes y
behind_passes Pass Yes z p q = refl
behind_passes Pass No z p q = refl
behind_passes Pass Pass z p q = absurd cc
behind_passes Yes y z p q = absurd cc
behind_passes No y z p q = absurd cc

better-tie : (a b d : List ℕ) → densities_tie a b ≡ true → deciding_of a b d ≡ Some density_rule → is_better a b d ≡ nat_le medium_density (device_number d coords.Density)
unfolding is_better record_number coordinate
better-tie a b d tied decided =
    ap is_yes (answer-parted (record_number a) (record_number b) (device_number d))
    ∙ behind_passes _ _ _ (earlier_pass a b d decided) (density_decides (record_number a) (record_number b) (device_number d) tied)
    ∙ density_yes (record_number a) (record_number b) (device_number d) tied

pub both_or_neither : (a b d : List ℕ) → BothOrNeitherIsBetter a b d
both_or_neither a b d plain t =
    (better-tie a b d t.densities t.decided, better-tie b a d (turned (density a) (density b) t.densities) (sym (either_order a b d plain) ∙ t.decided))
  where
    turned : (x y : ℕ) → tie x y ≡ true → tie y x ≡ true
    turned x y e = grind (arith, nat_tests)
