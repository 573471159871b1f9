-- A comparison of two records that say the same passes at every device.
use Rattle.std.proofs.Common.{true, false, ◌⊎◌, inl, inr, ◌≡◌, ◌≢◌, ℕ, refl, ap, sym, ◌∙◌, arith, Bool}
use Rattle.std.proofs.lemmas.Bool.{and_parts, eqb-true}
use Rattle.std.proofs.lemmas.Bool.Decides.{nat_tests}
use Rattle.std.proofs.lemmas.Int.{ints}
use Rattle.std.specs.Prelude.{ℤ, ◌==◌, ◌&&◌, IsTrue}
use Rattle.config_precedence.specs.config_record.declared.coord.Coord.{Coord}
use Rattle.config_precedence.specs.config_match.declared.answer.Answer.TheVariants.{Pass}
use Rattle.config_precedence.specs.config_match.declared.kind.Kind.{Kind}
use Rattle.config_precedence.specs.config_match.declared.kind.Kind.TheVariants as kinds
use Rattle.config_precedence.specs.config_match.declared.kind.Numbers.{Numbers}
use Rattle.config_precedence.specs.config_match.declared.rule.Rule.{Rule}
use Rattle.config_precedence.specs.config_match.Comparisons.{given_answer, larger_answer, always_larger_answer, smaller_answer, dimensions_answer, rest_of_both, screen_size_answer, density_answer, keys_answer, navigation_answer}
use Rattle.config_precedence.specs.config_match.Kind.{kind_answer}
use Rattle.config_precedence.proofs.config_match.LocaleLemmas.{locale_suits-nothing, locale_answer-same}
use Rattle.config_precedence.specs.config_match.Rule.{numbers_at, rule_answer}
use Rattle.box_answers.specs.Changes.{PassesEverywhere}

given-same : (n d : ℕ) → given_answer n n d ≡ Pass
given-same n d = grind (arith, nat_tests)

larger-same : (n d : ℕ) → larger_answer n n d ≡ Pass
larger-same n d = grind (arith, nat_tests)

always_larger-same : (n : ℕ) → always_larger_answer n n ≡ Pass
always_larger-same n = grind (arith, nat_tests)

screen_size-same : (n d : ℕ) → screen_size_answer n n d ≡ Pass
screen_size-same n d = grind (arith, nat_tests)

density-same : (n d : ℕ) → density_answer n n d ≡ Pass
density-same n d = grind (arith, nat_tests)

keys-same : (n d : ℕ) → keys_answer n n d ≡ Pass
keys-same n d = grind (arith, nat_tests)

navigation-same : (n d : ℕ) → navigation_answer n n d ≡ Pass
navigation-same n d = grind (arith, nat_tests)

smaller-same : (x : ℤ) → smaller_answer x x ≡ Pass
unfolding smaller_answer
smaller-same x = grind (arith, ints)

dimensions-same : (x d : Numbers) → dimensions_answer x x d ≡ Pass
unfolding dimensions_answer
dimensions-same x d = smaller-same (rest_of_both x d)

kind-same : (kind : Kind) (x d : Numbers) → kind ≢ kinds.Equal → kind ≢ kinds.AtMost → kind ≢ kinds.KeysSuit → kind ≢ kinds.LocaleSuits → kind_answer kind x x d ≡ Pass
unfolding kind_answer
kind-same kinds.Given x d e m k l = given-same x.first d.first
kind-same kinds.Larger x d e m k l = larger-same x.first d.first
kind-same kinds.AlwaysLarger x d e m k l = always_larger-same x.first
kind-same kinds.LocaleRank x d e m k l = locale_answer-same x.first d.first
kind-same kinds.Dimensions x d e m k l = dimensions-same x d
kind-same kinds.ScreenSize x d e m k l = screen_size-same x.first d.first
kind-same kinds.Density x d e m k l = density-same x.first d.first
kind-same kinds.KeysHidden x d e m k l = keys-same x.first d.first
kind-same kinds.NavHidden x d e m k l = navigation-same x.first d.first
kind-same kinds.Equal x d e m k l = absurd (e refl)
kind-same kinds.AtMost x d e m k l = absurd (m refl)
kind-same kinds.KeysSuit x d e m k l = absurd (k refl)
kind-same kinds.LocaleSuits x d e m k l = absurd (l refl)
kind-same kinds.Always x d e m k l = refl

pub same-passes : (rule : Rule) (a b : Coord → ℕ) → rule.kind ≢ kinds.Equal → rule.kind ≢ kinds.AtMost → rule.kind ≢ kinds.KeysSuit → rule.kind ≢ kinds.LocaleSuits
    → numbers_at rule.coord a ≡ numbers_at rule.coord b → PassesEverywhere rule a b
unfolding rule_answer
same-passes rule a b e m k l same d =
    ap (λ (y : Numbers). kind_answer rule.kind (numbers_at rule.coord a) y (numbers_at rule.coord d)) (sym same)
    ∙ kind-same rule.kind (numbers_at rule.coord a) (numbers_at rule.coord d) e m k l

pub numbers-same : (x y : Numbers) (same : Bool) → same ≡ (x.first == y.first && x.second == y.second) → IsTrue same → x ≡ y
numbers-same x y same is holds =
    let parts = and_parts (x.first == y.first) (x.second == y.second) (sym is ∙ holds) in
    ap (λ (n : ℕ). record { first = n; second = x.second }) (eqb-true x.first y.first parts.0)
    ∙ ap (λ (n : ℕ). record { first = y.first; second = n }) (eqb-true x.second y.second parts.1)

-- a kind that asks of one record whether it suits
abbrev pub is_condition : Kind → Bool
is_condition kinds.Equal = true
is_condition kinds.AtMost = true
is_condition kinds.KeysSuit = true
is_condition kinds.LocaleSuits = true
is_condition kind = false

pub are_conditions : (kind : Kind) → (kind ≡ kinds.Equal) ⊎ (kind ≡ kinds.AtMost) ⊎ (kind ≡ kinds.KeysSuit) ⊎ (kind ≡ kinds.LocaleSuits) → is_condition kind ≡ true
are_conditions kind (inl is) = rw is refl
are_conditions kind (inr (inl is)) = rw is refl
are_conditions kind (inr (inr (inl is))) = rw is refl
are_conditions kind (inr (inr (inr is))) = rw is refl

condition-nothing : (kind : Kind) (x y d : Numbers) → is_condition kind ≡ true → x.first ≡ 0 → kind_answer kind x y d ≡ Pass
unfolding kind_answer
condition-nothing kinds.Equal x y d is e = rw e refl
condition-nothing kinds.AtMost x y d is e = rw e refl
condition-nothing kinds.KeysSuit x y d is e = rw e refl
condition-nothing kinds.LocaleSuits x y d is e = rw (e, locale_suits-nothing d.first) refl
condition-nothing kind x y d is e = absurd cc

pub nothing-passes : (rule : Rule) (a b : Coord → ℕ) → is_condition rule.kind ≡ true → (numbers_at rule.coord a).first ≡ 0 → PassesEverywhere rule a b
unfolding rule_answer
nothing-passes rule a b is none d = condition-nothing rule.kind (numbers_at rule.coord a) (numbers_at rule.coord b) (numbers_at rule.coord d) is none

-- a condition of a record that says nothing passes, and so does each comparison of a record with itself
pub kind-nothing : (kind : Kind) (x d : Numbers) → x.first ≡ 0 → kind_answer kind x x d ≡ Pass
unfolding kind_answer
kind-nothing kinds.Equal x d e = rw e refl
kind-nothing kinds.AtMost x d e = rw e refl
kind-nothing kinds.KeysSuit x d e = rw e refl
kind-nothing kinds.LocaleSuits x d e = rw (e, locale_suits-nothing d.first) refl
kind-nothing kind x d e = kind-same kind x d (λ q. cc) (λ q. cc) (λ q. cc) (λ q. cc)
