-- How the answers of rules compose, and how this carries over to the first rule of a table that decides.
use Rattle.std.proofs.Common.{◌≡◌, ℕ, true, false, List, [], ◌∷◌, refl}
use Rattle.std.specs.List.{AllByRecursion}
use Rattle.config_match.specs.config_record.declared.coord.Coord.{Coord}
use Rattle.config_match.specs.declared.answer.Answer.{Answer}
use Rattle.config_match.specs.declared.answer.Answer.TheVariants.{Yes, No, Pass}
use Rattle.config_match.specs.declared.rule.Rule.{Rule}
use Rattle.config_match.specs.Answer.{is_pass, is_yes, or_else}
use Rattle.config_match.specs.Rule.{rule_answer}
use Rattle.config_match.specs.Table.{answer_of_table}

-- ---- of two records

-- x of two records and x' of the two in the other order: at most one is yes
pub record Opposes (x x' : Answer) : Type 0 where
  pub pass : x ≡ Pass → x' ≡ Pass
  pub yes : x ≡ Yes → x' ≡ No

opposes_step : (x x' X X' : Answer) → Opposes x x' → Opposes X X' → Opposes (or_else x X) (or_else x' X')
opposes_step Yes x' X X' o rest = record { pass = λ h. absurd cc; yes = λ h. rw (o.yes refl) refl }
opposes_step No x' X X' o rest = record { pass = λ h. absurd cc; yes = λ h. absurd cc }
opposes_step Pass x' X X' o rest = rw (o.pass refl) rest

pub opposes : (rules : List Rule) (a b d : Coord → ℕ) → AllByRecursion (λ rule. Opposes (rule_answer rule a b d) (rule_answer rule b a d)) rules
    → Opposes (answer_of_table rules a b d) (answer_of_table rules b a d)
opposes [] a b d all = record { pass = λ h. refl; yes = λ h. absurd cc }
opposes (rule ∷ rules) a b d all = opposes_step (rule_answer rule a b d) (rule_answer rule b a d) _ _ all.0 (opposes rules a b d all.1)

pub yes_alone : (x x' : Answer) → Opposes x x' → is_yes x ≡ true → is_yes x' ≡ false
yes_alone Yes x' o h = rw (o.yes refl) refl
yes_alone No x' o h = absurd cc
yes_alone Pass x' o h = absurd cc

pub passes_alike : (x x' : Answer) → (x ≡ Pass → x' ≡ Pass) → (x' ≡ Pass → x ≡ Pass) → is_pass x ≡ is_pass x'
passes_alike Pass Pass to back = refl
passes_alike Pass x' to back = let h = to refl in absurd cc
passes_alike x Pass to back = let h = back refl in absurd cc
passes_alike x x' to back = refl

-- ---- of three records

-- the first is better, and not the other way round
abbrev pub Strict : Answer → Answer → Type 0
Strict x x' = (is_yes x ≡ true) × (is_yes x' ≡ false)

-- both ways a rule decides, or none
abbrev pub PassAlike : Answer → Answer → Type 0
PassAlike x x' = (x ≡ Pass → x' ≡ Pass) × (x' ≡ Pass → x ≡ Pass)

-- x of a first record and a second, y of the second and a third, z of the first and the third, and each
-- in the other order
pub record Composes (x x' y y' z z' : Answer) : Type 0 where
  pub first_alike : PassAlike x x'
  pub second_alike : PassAlike y y'
  pub both_pass : x ≡ Pass → y ≡ Pass → (z ≡ Pass) × (z' ≡ Pass)
  pub first_decides : x ≡ Yes → x' ≡ No → y ≡ Pass → (z ≡ Yes) × (z' ≡ No)
  pub second_decides : x ≡ Pass → y ≡ Yes → y' ≡ No → (z ≡ Yes) × (z' ≡ No)
  pub both_decide : x ≡ Yes → x' ≡ No → y ≡ Yes → y' ≡ No → (z ≡ Yes) × (z' ≡ No)

-- what the first record of a pair is where the rule decides strictly
data Cases (x x' X X' : Answer) : Type 0 where
  passes : x ≡ Pass → x' ≡ Pass → Strict X X' → Cases x x' X X'
  decides : x ≡ Yes → x' ≡ No → Cases x x' X X'

cases : (x x' X X' : Answer) → PassAlike x x' → Strict (or_else x X) (or_else x' X') → Cases x x' X X'
cases Yes Yes X X' alike s = let h = s.1 in absurd cc
cases Yes No X X' alike s = decides refl refl
cases Yes Pass X X' alike s = let h = alike.1 refl in absurd cc
cases No x' X X' alike s = let h = s.0 in absurd cc
cases Pass x' X X' alike s = let e = alike.0 refl in passes refl e (s.0, rw e at s.1)

strict_yes : (z z' Z Z' : Answer) → (z ≡ Yes) × (z' ≡ No) → Strict (or_else z Z) (or_else z' Z')
strict_yes z z' Z Z' h = rw (h.0, h.1) (refl, refl)

composes_step : (x x' y y' z z' X X' Y Y' Z Z' : Answer) → Composes x x' y y' z z' → (Strict X X' → Strict Y Y' → Strict Z Z')
    → Strict (or_else x X) (or_else x' X') → Strict (or_else y Y) (or_else y' Y') → Strict (or_else z Z) (or_else z' Z')
composes_step x x' y y' z z' X X' Y Y' Z Z' c rest first second =
    elim (cases x x' X X' c.first_alike first) [
      | passes e e' s ↦
          elim (cases y y' Y Y' c.second_alike second) [
            | passes f f' t ↦ (let p = c.both_pass e f in rw (p.0, p.1) (rest s t))
            | decides f f' ↦ strict_yes z z' Z Z' (c.second_decides e f f')
          ]
      | decides e e' ↦
          elim (cases y y' Y Y' c.second_alike second) [
            | passes f f' t ↦ strict_yes z z' Z Z' (c.first_decides e e' f)
            | decides f f' ↦ strict_yes z z' Z Z' (c.both_decide e e' f f')
          ]
    ]

pub composes : (rules : List Rule) (a b c d : Coord → ℕ)
    → AllByRecursion (λ rule. Composes (rule_answer rule a b d) (rule_answer rule b a d) (rule_answer rule b c d) (rule_answer rule c b d) (rule_answer rule a c d) (rule_answer rule c a d)) rules
    → Strict (answer_of_table rules a b d) (answer_of_table rules b a d) → Strict (answer_of_table rules b c d) (answer_of_table rules c b d)
    → Strict (answer_of_table rules a c d) (answer_of_table rules c a d)
composes [] a b c d all first second = let h = first.0 in absurd cc
composes (rule ∷ rules) a b c d all first second = composes_step _ _ _ _ _ _ _ _ _ _ _ _ all.0 (composes rules a b c d all.1) first second
