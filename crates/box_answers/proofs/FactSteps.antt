-- The four facts.
use Rattle.std.proofs.Common.{◌≡◌, ℕ, ◌<◌, ◌≤◌, ◌==◌, true, false, not, arith, nat_le, Bool, refl, ap}
use Rattle.std.specs.Prelude.{if◌then◌else◌}
use Rattle.std.proofs.lemmas.Bool.Decides.{nat_tests}
use Rattle.config_precedence.specs.config_record.declared.coord.Coord.{Coord}
use Rattle.config_precedence.specs.config_record.declared.coord.Coord.TheVariants as coords
use Rattle.config_precedence.specs.config_match.declared.answer.Answer.TheVariants.{Yes}
use Rattle.config_precedence.specs.config_match.Answer.{answer_where}
use Rattle.config_precedence.specs.config_match.Comparisons.{differ, is_larger_better, any_density, counted_density, is_better_density}
use Rattle.config_precedence.specs.config_match.Kind.{kind_answer}
use Rattle.config_precedence.specs.config_match.Rule.{numbers_at, rule_answer}
use Rattle.box_answers.specs.Facts.{DensityTurnsOnce, SizesFromNormalUpAreAlike, DimensionsAskWhichAreZero}
use Rattle.box_answers.proofs.Covers.{size-alike}
use Rattle.box_answers.proofs.Dimensions.{dimensions-alike}
use Rattle.box_answers.proofs.Monotone.{is_larger_better-mono}

-- ---- densities

-- which of two densities is better, by what is known of them
chosen : Bool → Bool → Bool → Bool → Bool → Bool
chosen any other first m n = if any then true else if other then false else if first then m else not n

kept_first : (any other m n x y : Bool) → (m ≡ true → x ≡ true) → chosen any other true m n ≡ true → chosen any other true x y ≡ true
unfolding chosen
kept_first true other m n x y h e = refl
kept_first false true m n x y h e = e
kept_first false false m n x y h e = h e

kept_second : (any other m n x y : Bool) → (y ≡ true → n ≡ true) → chosen any other false m n ≡ true → chosen any other false x y ≡ true
unfolding chosen
kept_second true other m n x y h e = refl
kept_second false true m n x y h e = e
kept_second false false m n x true h e = let f = h refl in cc
kept_second false false m n x false h e = refl

better-up : (a b r s : ℕ) → counted_density b ≤ counted_density a → r ≤ s → is_better_density a b r ≡ true → is_better_density a b s ≡ true
unfolding chosen
better-up a b r s le grows e =
    let x : ℕ = counted_density a in
    let y : ℕ = counted_density b in
    let first : nat_le y x ≡ true = grind (arith, nat_tests) in
    let was : chosen (x == any_density) (y == any_density) (nat_le y x) (is_larger_better y x r) (is_larger_better x y r) ≡ true = e in
    let now : chosen (x == any_density) (y == any_density) (nat_le y x) (is_larger_better y x s) (is_larger_better x y s) ≡ true =
    rw first (kept_first (x == any_density) (y == any_density) (is_larger_better y x r) (is_larger_better x y r) (is_larger_better y x s) (is_larger_better x y s)
    (is_larger_better-mono y x r s grows) (rw first at was)) in
    now

better-down : (a b r s : ℕ) → counted_density a < counted_density b → s ≤ r → is_better_density a b r ≡ true → is_better_density a b s ≡ true
unfolding chosen
better-down a b r s lt falls e =
    let x : ℕ = counted_density a in
    let y : ℕ = counted_density b in
    let second : nat_le y x ≡ false = grind (arith, nat_tests) in
    let was : chosen (x == any_density) (y == any_density) (nat_le y x) (is_larger_better y x r) (is_larger_better x y r) ≡ true = e in
    let now : chosen (x == any_density) (y == any_density) (nat_le y x) (is_larger_better y x s) (is_larger_better x y s) ≡ true =
    rw second (kept_second (x == any_density) (y == any_density) (is_larger_better y x r) (is_larger_better x y r) (is_larger_better y x s) (is_larger_better x y s)
    (is_larger_better-mono x y s r falls) (rw second at was)) in
    now

yes_where : (decides x y : Bool) → (x ≡ true → y ≡ true) → answer_where decides x ≡ Yes → answer_where decides y ≡ Yes
yes_where true true y h e = ap (λ z. answer_where true z) (h refl)
yes_where true false y h e = absurd cc
yes_where false x y h e = absurd cc

pub turns_once : (a b : Coord → ℕ) → DensityTurnsOnce a b
unfolding rule_answer kind_answer
turns_once a b = record {
  up = λ d e le grows was. yes_where (differ (a coords.Density) (b coords.Density)) _ _ (better-up (a coords.Density) (b coords.Density) (d coords.Density) (e coords.Density) le grows) was;
  down = λ d e lt falls was. yes_where (differ (a coords.Density) (b coords.Density)) _ _ (better-down (a coords.Density) (b coords.Density) (d coords.Density) (e coords.Density) lt falls) was;
}

-- ---- sizes and dimensions

pub sizes_alike : (a b : Coord → ℕ) → SizesFromNormalUpAreAlike a b
unfolding rule_answer kind_answer
sizes_alike a b d e p q = size-alike (a coords.ScreenSize) (b coords.ScreenSize) (d coords.ScreenSize) (e coords.ScreenSize) p q

pub dimensions_alike : (a b : Coord → ℕ) → DimensionsAskWhichAreZero a b
unfolding rule_answer kind_answer
dimensions_alike a b c d e p q = dimensions-alike (numbers_at c a) (numbers_at c b) (numbers_at c d) (numbers_at c e) p q
