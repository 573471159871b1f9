-- The comparison of two dimensions is the order of their sums.
use Rattle.std.proofs.Common.{◌≡◌, arith}
use Rattle.std.specs.Prelude.{ℤ}
use lib.Signed.{◌<ℤ◌, ◌≤ℤ◌}
use Rattle.std.proofs.lemmas.Int.{ints, by_lt_z}
use Rattle.config_match.specs.declared.answer.Answer.TheVariants.{Yes, No, Pass}
use Rattle.config_match.specs.Comparisons.{smaller_answer}
use Rattle.config_precedence.proofs.Composition.{Opposes, Composes}

smaller-less : (x y : ℤ) → x <ℤ y → smaller_answer x y ≡ Yes
unfolding smaller_answer
smaller-less x y h = grind (arith, ints)

smaller-more : (x y : ℤ) → y <ℤ x → smaller_answer x y ≡ No
unfolding smaller_answer
smaller-more x y h = grind (arith, ints)

smaller-equal : (x y : ℤ) → x ≤ℤ y → y ≤ℤ x → smaller_answer x y ≡ Pass
unfolding smaller_answer
smaller-equal x y h k = grind (arith, ints)

smaller-yes : (x y : ℤ) → smaller_answer x y ≡ Yes → x <ℤ y
smaller-yes x y h =
    by_lt_z x y (λ lt. lt) (λ le. by_lt_z y x
    (λ lt. let e = smaller-more x y lt in absurd cc)
    (λ le'. let e = smaller-equal x y le' le in absurd cc))

smaller-pass : (x y : ℤ) → smaller_answer x y ≡ Pass → (x ≤ℤ y) × (y ≤ℤ x)
smaller-pass x y h =
    by_lt_z x y
    (λ lt. let e = smaller-less x y lt in absurd cc)
    (λ le. by_lt_z y x (λ lt. let e = smaller-more x y lt in absurd cc) (λ le'. (le', le)))

pub smaller-opposes : (x y : ℤ) → Opposes (smaller_answer x y) (smaller_answer y x)
smaller-opposes x y = record {
  pass = λ h. let e = smaller-pass x y h in smaller-equal y x e.1 e.0;
  yes = λ h. smaller-more y x (smaller-yes x y h);
}

pub smaller-composes : (x y z : ℤ) → Composes (smaller_answer x y) (smaller_answer y x) (smaller_answer y z) (smaller_answer z y) (smaller_answer x z) (smaller_answer z x)
smaller-composes x y z = record {
  first_alike = (λ h. let e = smaller-pass x y h in smaller-equal y x e.1 e.0, λ h. let e = smaller-pass y x h in smaller-equal x y e.1 e.0);
  second_alike = (λ h. let e = smaller-pass y z h in smaller-equal z y e.1 e.0, λ h. let e = smaller-pass z y h in smaller-equal y z e.1 e.0);
  both_pass = λ h k. let e = smaller-pass x y h in let f = smaller-pass y z k in (smaller-equal x z (omega (arith, ints)) (omega (arith, ints)), smaller-equal z x (omega (arith, ints)) (omega (arith, ints)));
  first_decides = λ h _ k. let e = smaller-yes x y h in let f = smaller-pass y z k in (smaller-less x z (omega (arith, ints)), smaller-more z x (omega (arith, ints)));
  second_decides = λ h k _. let e = smaller-pass x y h in let f = smaller-yes y z k in (smaller-less x z (omega (arith, ints)), smaller-more z x (omega (arith, ints)));
  both_decide = λ h _ k _. let e = smaller-yes x y h in let f = smaller-yes y z k in (smaller-less x z (omega (arith, ints)), smaller-more z x (omega (arith, ints)));
}
