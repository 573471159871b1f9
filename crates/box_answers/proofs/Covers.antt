-- A rule that says something anywhere in a set says it at one of the numbers that are tried.
use Rattle.std.proofs.Common.{◌≡◌, ℕ, ◌+◌, ◌<◌, ◌≤◌, ◌≢◌, true, false, arith, nat_lt, nat_le, ◌==◌, refl, Bool, ◌⊎◌, inl, inr, sym, ◌∙◌, ap, not, ◌&&◌, ◌||◌, List, length, get_or, lit<}
use Rattle.std.proofs.lemmas.Bool.Decides.{nat_tests}
use Rattle.std.proofs.lemmas.Bool.{cases_eq}
use Rattle.std.specs.Prelude.{if◌then◌else◌}
use Rattle.config_precedence.specs.config_match.declared.answer.Answer.{Answer}
use Rattle.config_precedence.specs.config_match.declared.answer.Answer.TheVariants.{Pass}
use Rattle.config_precedence.specs.config_match.declared.kind.Kind.{Kind}
use Rattle.config_precedence.specs.config_match.declared.kind.Kind.TheVariants as kinds
use Rattle.config_precedence.specs.config_match.declared.kind.Numbers.{Numbers}
use Rattle.config_precedence.specs.config_match.Answer.{answer_where, answer_of_condition}
use Rattle.config_precedence.specs.config_match.Comparisons.{is_given, differ, given_answer, larger_answer, is_larger_better, any_density, counted_density, density_answer, keys_answer, navigation_answer, screen_size_answer}
use Rattle.config_precedence.specs.config_match.Condition.{is_equal, is_at_most, keys_suit}
use Rattle.config_precedence.specs.config_match.Kind.{kind_answer}
use Rattle.box_answers.specs.NumberSet.{SetOf, RangeOf, NumbersOf, LocalesOf, IsIn}
use Rattle.box_answers.specs.TriedNumbers.{clamped, tried_numbers, can_be_tried}
use Rattle.box_answers.proofs.Sets.{get_or_same}
use Rattle.box_answers.proofs.Monotone.{by_bool, is_larger_better-ends}

by_eq : {P : Type 0} (a b : ℕ) → (a ≡ b → P) → ((a ≡ b → ⊥) → P) → P
by_eq a b same other = elim (cases_eq a b) [ inl e ↦ same e | inr n ↦ other n ]

-- ---- where an answer is looked for in a range

-- the answer is none of these: at the ends, at the two numbers after the first, at three given numbers
record FailsAt (f : ℕ → Answer) (a b low high : ℕ) (want : Answer) : Type 0 where
  at_low : f low ≡ want → ⊥
  at_high : f high ≡ want → ⊥
  at_second : low + 1 ≤ high → f (low + 1) ≡ want → ⊥
  at_third : low + 2 ≤ high → f (low + 2) ≡ want → ⊥
  at_first : low ≤ a → a ≤ high → f a ≡ want → ⊥
  at_other : low ≤ b → b ≤ high → f b ≡ want → ⊥
  at_soft : low ≤ 3 → 3 ≤ high → f 3 ≡ want → ⊥

-- nowhere in the range is it wanted
IsMissed : (ℕ → Answer) → ℕ → ℕ → Answer → Type 0
IsMissed f low high want = (v : ℕ) → low ≤ v → v ≤ high → f v ≡ want → ⊥

-- ---- the answer is that of one of the ends

abbrev Either : Answer → Answer → Answer → Type 0
Either x y z = (x ≡ y) ⊎ (x ≡ z)

HasEnds : (ℕ → Answer) → Type 0
HasEnds f = (low high v : ℕ) → low ≤ v → v ≤ high → Either (f v) (f low) (f high)

from_ends : (x y z want : Answer) → Either x y z → (y ≡ want → ⊥) → (z ≡ want → ⊥) → x ≡ want → ⊥
from_ends x y z want (inl e) p q h = p (sym e ∙ h)
from_ends x y z want (inr e) p q h = q (sym e ∙ h)

by_ends : (f : ℕ → Answer) (a b low high : ℕ) (want : Answer) → HasEnds f → FailsAt f a b low high want → IsMissed f low high want
unfolding HasEnds IsMissed
by_ends f a b low high want ends fails v p q h = from_ends (f v) (f low) (f high) want (ends low high v p q) fails.at_low fails.at_high h

through : (F : Bool → Answer) (p q r : Bool) → (p ≡ q) ⊎ (p ≡ r) → Either (F p) (F q) (F r)
through F p q r (inl e) = inl (ap F e)
through F p q r (inr e) = inr (ap F e)

-- being zero is as at one of the ends
pub zero-ends : (low high v : ℕ) → low ≤ v → v ≤ high → ((v == 0) ≡ (low == 0)) ⊎ ((v == 0) ≡ (high == 0))
zero-ends low high v p q = grind (arith, nat_tests)

-- and so is being at least as much as another
le-ends : (a low high v : ℕ) → low ≤ v → v ≤ high → (nat_le a v ≡ nat_le a low) ⊎ (nat_le a v ≡ nat_le a high)
le-ends a low high v p q = grind (arith, nat_tests)

given-ends : (a b : ℕ) → HasEnds (given_answer a b)
unfolding HasEnds
given-ends a b low high v p q = through (λ z. answer_where (differ a b && not z) (is_given a)) (v == 0) (low == 0) (high == 0) (zero-ends low high v p q)

larger-ends : (a b : ℕ) → HasEnds (larger_answer a b)
unfolding HasEnds
larger-ends a b low high v p q = through (λ z. answer_where (differ a b && not z) (nat_lt b a)) (v == 0) (low == 0) (high == 0) (zero-ends low high v p q)

navigation-ends : (a b : ℕ) → HasEnds (navigation_answer a b)
unfolding HasEnds
navigation-ends a b low high v p q =
    through (λ z. answer_where (differ a b && not z && (a == 0 || b == 0)) (is_given a)) (v == 0) (low == 0) (high == 0) (zero-ends low high v p q)

at_most-ends : (a : ℕ) → HasEnds (λ v. answer_of_condition (is_at_most a v))
unfolding HasEnds
at_most-ends a low high v p q = through (λ z. answer_of_condition (a == 0 || z)) (nat_le a v) (nat_le a low) (nat_le a high) (le-ends a low high v p q)

density-ends : (a b : ℕ) → HasEnds (density_answer a b)
unfolding HasEnds
density-ends a b low high v p q =
    let x : ℕ = counted_density a in let y : ℕ = counted_density b in
    let F : Bool → Bool → Bool → Answer = λ t m n. answer_where (differ a b) (if x == any_density then true else if y == any_density then false else if t then m else not n) in
    by_bool
    (λ t. Either (F t (is_larger_better y x v) (is_larger_better x y v)) (F t (is_larger_better y x low) (is_larger_better x y low)) (F t (is_larger_better y x high) (is_larger_better x y high)))
    (nat_le y x)
    (λ _. through (λ m. F true m true) _ _ _ (is_larger_better-ends y x low high v p q))
    (λ _. through (λ n. F false true n) _ _ _ (is_larger_better-ends x y low high v p q))

constant-ends : (x : Answer) → HasEnds (λ _. x)
unfolding HasEnds
constant-ends x low high v p q = inl refl

-- ---- the answer is the same at all numbers but two

IsAlikeBut : (ℕ → Answer) → ℕ → ℕ → Type 0
IsAlikeBut f p q = (v w : ℕ) → (v ≡ p → ⊥) → (v ≡ q → ⊥) → (w ≡ p → ⊥) → (w ≡ q → ⊥) → f v ≡ f w

-- a number that is one of the two
abbrev OneOf : ℕ → ℕ → ℕ → Type 0
OneOf p q n = (n ≡ p) ⊎ (n ≡ q)

one_of-or : (p q n : ℕ) → (((n ≡ p → ⊥) → (n ≡ q → ⊥) → ⊥)) → (OneOf p q n → ⊥) → ⊥
one_of-or p q n other special = by_eq n p (λ e. special (inl e)) (λ np. by_eq n q (λ e. special (inr e)) (λ nq. other np nq))

not_one_of : (p q n m : ℕ) → n ≡ m → (n ≡ p → ⊥) → (n ≡ q → ⊥) → OneOf p q m → ⊥
not_one_of p q n m e np nq (inl h) = np (e ∙ h)
not_one_of p q n m e np nq (inr h) = nq (e ∙ h)

-- two numbers are not three
three_of_two : (p q low : ℕ) → OneOf p q low → OneOf p q (low + 1) → OneOf p q (low + 2) → ⊥
three_of_two p q low x y z = grind arith

-- among the first three numbers, or before the third, there is one that is neither of the two
elsewhere : (f : ℕ → Answer) (a b p q low high : ℕ) (want : Answer) → IsAlikeBut f p q → FailsAt f a b low high want
    → (v : ℕ) → low ≤ v → v ≤ high → (v ≡ p → ⊥) → (v ≡ q → ⊥) → f v ≡ want → ⊥
unfolding IsAlikeBut
elsewhere f a b p q low high want alike fails v from to np nq h =
    one_of-or p q low (λ lp lq. fails.at_low (alike low v lp lq np nq ∙ h))
    (λ low_special. by_eq v low (λ e. not_one_of p q v low e np nq low_special)
    (λ n. one_of-or p q (low + 1) (λ sp sq. fails.at_second (omega arith) (alike (low + 1) v sp sq np nq ∙ h))
    (λ second_special. by_eq v (low + 1) (λ e. not_one_of p q v (low + 1) e np nq second_special)
    (λ far. one_of-or p q (low + 2) (λ tp tq. fails.at_third (omega arith) (alike (low + 2) v tp tq np nq ∙ h))
    (λ third_special. three_of_two p q low low_special second_special third_special)))))

by_two : (f : ℕ → Answer) (a b p q low high : ℕ) (want : Answer) → IsAlikeBut f p q → FailsAt f a b low high want
    → (low ≤ p → p ≤ high → f p ≡ want → ⊥) → (low ≤ q → q ≤ high → f q ≡ want → ⊥) → IsMissed f low high want
unfolding IsMissed
by_two f a b p q low high want alike fails at_p at_q v from to h =
    by_eq v p (λ e. at_p (omega arith) (omega arith) (ap f (sym e) ∙ h))
    (λ np. by_eq v q (λ e. at_q (omega arith) (omega arith) (ap f (sym e) ∙ h))
    (λ nq. elsewhere f a b p q low high want alike fails v from to np nq h))

equal-alike : (a : ℕ) → IsAlikeBut (λ v. answer_of_condition (is_equal a v)) a a
unfolding IsAlikeBut
equal-alike a v w va _ wa _ =
    let e : (a == v) ≡ false = grind (arith, nat_tests) in
    let f : (a == w) ≡ false = grind (arith, nat_tests) in
    ap (λ z. answer_of_condition (a == 0 || z)) (e ∙ sym f)

suit-alike : (a : ℕ) → IsAlikeBut (λ v. answer_of_condition (keys_suit a v)) a 3
unfolding IsAlikeBut
suit-alike a v w va vs wa ws =
    let e : (a == v) ≡ false = grind (arith, nat_tests) in
    let f : (a == w) ≡ false = grind (arith, nat_tests) in
    let g : (v == 3) ≡ false = grind (arith, nat_tests) in
    let h : (w == 3) ≡ false = grind (arith, nat_tests) in
    ap (λ z. answer_of_condition (a == 0 || z || (a == 1 && (v == 3)))) (e ∙ sym f) ∙ ap (λ z. answer_of_condition (a == 0 || (a == w) || (a == 1 && z))) (g ∙ sym h)

-- ---- hidden keys

keys-nothing : (a b v : ℕ) → v ≡ 0 → keys_answer a b v ≡ Pass
keys-nothing a b v e = rw e (zero_decides (differ a b) (a == 0 || b == 0 || a == 0 || b == 0) (is_given a && (b == 0 || a == 0)))
  where
    zero_decides : (x y z : Bool) → answer_where (x && not (0 == 0) && y) z ≡ Pass
    zero_decides true y z = refl
    zero_decides false y z = refl

keys-zero : (a b v w : ℕ) → (a ≡ 0) ⊎ (b ≡ 0) → (v ≡ 0 → ⊥) → (w ≡ 0 → ⊥) → keys_answer a b v ≡ keys_answer a b w
keys-zero a b v w z p q = grind (arith, nat_tests)

keys-other : (a b v : ℕ) → (a ≡ 0 → ⊥) → (b ≡ 0 → ⊥) → (v ≡ a → ⊥) → (v ≡ b → ⊥) → keys_answer a b v ≡ Pass
keys-other a b v az bz va vb =
    let e : (a == 0) ≡ false = grind (arith, nat_tests) in
    let f : (b == 0) ≡ false = grind (arith, nat_tests) in
    let g : (a == v) ≡ false = grind (arith, nat_tests) in
    let h : (b == v) ≡ false = grind (arith, nat_tests) in
    none (differ a b) (is_given v) (a == 0) (b == 0) (a == v) (b == v) (is_given a && (b == 0 || a == v)) e f g h
  where
    none : (x y p q r s z : Bool) → p ≡ false → q ≡ false → r ≡ false → s ≡ false → answer_where (x && y && (p || q || r || s)) z ≡ Pass
    none x y p q r s z e f g h = rw (e, f, g, h) (passes x y z)
      where
        passes : (x y z : Bool) → answer_where (x && y && (false || false || false || false)) z ≡ Pass
        passes true true z = refl
        passes true false z = refl
        passes false y z = refl

keys-alike : (a b : ℕ) → (a ≡ 0 → ⊥) → (b ≡ 0 → ⊥) → IsAlikeBut (keys_answer a b) a b
unfolding IsAlikeBut
keys-alike a b az bz v w va vb wa wb = keys-other a b v az bz va vb ∙ sym (keys-other a b w az bz wa wb)

keys-ends : (a b : ℕ) → (a ≡ 0) ⊎ (b ≡ 0) → HasEnds (keys_answer a b)
unfolding HasEnds
keys-ends a b z low high v p q =
    by_eq v 0
    (λ e. let f : v ≡ low = omega arith in inl (ap (keys_answer a b) f))
    (λ n. let m : high ≡ 0 → ⊥ = λ h. n (omega arith) in inr (keys-zero a b v high z n m))

keys-missed : (a b low high : ℕ) (want : Answer) → FailsAt (keys_answer a b) a b low high want → IsMissed (keys_answer a b) low high want
keys-missed a b low high want fails =
    by_eq a 0 (λ e. by_ends _ a b low high want (keys-ends a b (inl e)) fails)
    (λ az. by_eq b 0 (λ e. by_ends _ a b low high want (keys-ends a b (inr e)) fails)
    (λ bz. by_two _ a b a b low high want (keys-alike a b az bz) fails fails.at_first fails.at_other))

-- ---- the screen's size

-- all sizes from normal up are alike
pub size-alike : (a b v w : ℕ) → 2 ≤ v → 2 ≤ w → screen_size_answer a b v ≡ screen_size_answer a b w
size-alike a b v w p q =
    let e : (v == 0) ≡ false = grind (arith, nat_tests) in
    let f : (w == 0) ≡ false = grind (arith, nat_tests) in
    let g : nat_lt v 2 ≡ false = grind (arith, nat_tests) in
    let h : nat_lt w 2 ≡ false = grind (arith, nat_tests) in
    rw (e, f, g, h) refl

size-missed : (a b low high : ℕ) (want : Answer) → FailsAt (screen_size_answer a b) a b low high want → IsMissed (screen_size_answer a b) low high want
unfolding IsMissed
size-missed a b low high want fails v p q h =
    by_eq v low (λ e. fails.at_low (ap (screen_size_answer a b) (sym e) ∙ h))
    (λ n. by_eq v (low + 1) (λ e. fails.at_second (omega arith) (ap (screen_size_answer a b) (sym e) ∙ h))
    (λ m. fails.at_high (size-alike a b high v (omega arith) (omega arith) ∙ h)))

-- ---- each kind

-- what a rule of a kind says at a device's number
abbrev pub says : Kind → Numbers → Numbers → ℕ → ℕ → Answer
says kind a b m n = kind_answer kind a b (record { first = n; second = m })

range-missed : (kind : Kind) (a b : Numbers) (m low high : ℕ) (want : Answer) → kind ≢ kinds.Dimensions → can_be_tried kind (RangeOf low high) ≡ true → FailsAt (says kind a b m) a.first b.first low high want
    → IsMissed (says kind a b m) low high want
unfolding kind_answer
range-missed kinds.Given a b m low high want one tried fails = by_ends _ a.first b.first low high want (given-ends a.first b.first) fails
range-missed kinds.Larger a b m low high want one tried fails = by_ends _ a.first b.first low high want (larger-ends a.first b.first) fails
range-missed kinds.AlwaysLarger a b m low high want one tried fails = by_ends _ a.first b.first low high want (constant-ends _) fails
range-missed kinds.LocaleRank a b m low high want one tried fails = absurd cc
range-missed kinds.Dimensions a b m low high want one tried fails = absurd (one refl)
range-missed kinds.ScreenSize a b m low high want one tried fails = size-missed a.first b.first low high want fails
range-missed kinds.Density a b m low high want one tried fails = by_ends _ a.first b.first low high want (density-ends a.first b.first) fails
range-missed kinds.KeysHidden a b m low high want one tried fails = keys-missed a.first b.first low high want fails
range-missed kinds.NavHidden a b m low high want one tried fails = by_ends _ a.first b.first low high want (navigation-ends a.first b.first) fails
range-missed kinds.Equal a b m low high want one tried fails = by_two _ a.first b.first a.first a.first low high want (equal-alike a.first) fails fails.at_first fails.at_first
range-missed kinds.AtMost a b m low high want one tried fails = by_ends _ a.first b.first low high want (at_most-ends a.first) fails
range-missed kinds.KeysSuit a b m low high want one tried fails = by_two _ a.first b.first a.first 3 low high want (suit-alike a.first) fails fails.at_first fails.at_soft
range-missed kinds.LocaleSuits a b m low high want one tried fails = absurd cc
range-missed kinds.Always a b m low high want one tried fails = by_ends _ a.first b.first low high want (constant-ends _) fails

clamped-same : (low high n : ℕ) → low ≤ n → n ≤ high → clamped low high n ≡ n
clamped-same low high n p q = omega arith

-- what is wanted is said at no number that is tried
abbrev pub IsMissedBy : (ℕ → Answer) → List ℕ → Answer → Type 0
IsMissedBy f numbers want = (k : ℕ) → k < length numbers → f (get_or numbers k 0) ≢ want

fails_at : (f : ℕ → Answer) (low high a b : ℕ) (want : Answer) → IsMissedBy f (tried_numbers (RangeOf low high) a b) want → FailsAt f a b low high want
fails_at f low high a b want h = record {
  at_low = h 0 (lit< tt);
  at_high = h 1 (lit< tt);
  at_second = λ p e. h 2 (lit< tt) (ap f (clamped-same low high (low + 1) (omega arith) p) ∙ e);
  at_third = λ p e. h 3 (lit< tt) (ap f (clamped-same low high (low + 2) (omega arith) p) ∙ e);
  at_first = λ p q e. h 4 (lit< tt) (ap f (clamped-same low high a p q) ∙ e);
  at_other = λ p q e. h 5 (lit< tt) (ap f (clamped-same low high b p q) ∙ e);
  at_soft = λ p q e. h 6 (lit< tt) (ap f (clamped-same low high 3 p q) ∙ e);
}

-- where it is said at none of them it is said nowhere in the set
pub missed : (kind : Kind) (a b : Numbers) (m : ℕ) (set : SetOf) (want : Answer) → kind ≢ kinds.Dimensions → can_be_tried kind set ≡ true → IsMissedBy (says kind a b m) (tried_numbers set a.first b.first) want
    → (n : ℕ) → IsIn set n → says kind a b m n ≢ want
unfolding IsMissed
missed kind a b m (RangeOf low high) want one tried h n is = range-missed kind a b m low high want one tried (fails_at (says kind a b m) low high a.first b.first want h) n is.0 is.1
missed kind a b m (NumbersOf numbers) want one tried h n is = λ e. h is.0 is.1 (ap (says kind a b m) (sym (get_or_same numbers is.0 n is.1 is.2)) ∙ e)
missed kind a b m (LocalesOf locales) want one tried h n is = λ e. h is.0 is.1 (ap (says kind a b m) (sym (get_or_same locales is.0 n is.1 is.2)) ∙ e)
