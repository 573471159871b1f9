-- Dimensions ask only which of the device's are 0.
use Rattle.std.proofs.Common.{◌≡◌, ℕ, ◌==◌, Bool, true, false, arith, refl, sym, ◌∙◌}
use Rattle.std.specs.Prelude.{if◌then◌else◌, ℤ, pos, ◌-ℤ◌}
use Rattle.std.proofs.lemmas.Int.{ints, by_lt_z}
use lib.Signed.{lt_z, ◌<ℤ◌, ◌≤ℤ◌}
use Rattle.config_precedence.specs.config_match.declared.kind.Numbers.{Numbers}
use Rattle.config_precedence.specs.config_match.Comparisons.{rest_of, rest_of_both, smaller_answer, dimensions_answer}

lt_z-is : (x y : ℤ) → x <ℤ y → lt_z x y ≡ true
lt_z-is x y h = grind (arith, ints)

lt_z-not : (x y : ℤ) → y ≤ℤ x → lt_z x y ≡ false
lt_z-not x y h = grind (arith, ints)

-- two sums that grow by the same
lt_z-grown : (s t x y : ℤ) → (s -ℤ t) ≡ (x -ℤ y) → lt_z s t ≡ lt_z x y
lt_z-grown s t x y e =
    by_lt_z s t
    (λ lt. let other : x <ℤ y = omega (arith, ints) in lt_z-is s t lt ∙ sym (lt_z-is x y other))
    (λ le. let other : y ≤ℤ x = omega (arith, ints) in lt_z-not s t le ∙ sym (lt_z-not x y other))

smaller_answer-grown : (s t x y : ℤ) → (s -ℤ t) ≡ (x -ℤ y) → (t -ℤ s) ≡ (y -ℤ x) → smaller_answer s t ≡ smaller_answer x y
unfolding smaller_answer
smaller_answer-grown s t x y e f = let g = lt_z-grown s t x y e in let h = lt_z-grown t s y x f in rw (g, h)

-- what is left of one dimension beside two records differs by as much at all devices that have it
rest-differs : (a b d e : ℕ) → (d == 0) ≡ (e == 0) → (rest_of a d -ℤ rest_of b d) ≡ (rest_of a e -ℤ rest_of b e)
unfolding rest_of
rest-differs a b d e same = by_zero (d == 0) (e == 0) refl refl
  where
    by_zero : (x y : Bool) → (d == 0) ≡ x → (e == 0) ≡ y
        → ((if x then pos 0 else pos d -ℤ pos a) -ℤ (if x then pos 0 else pos d -ℤ pos b)) ≡ ((if y then pos 0 else pos e -ℤ pos a) -ℤ (if y then pos 0 else pos e -ℤ pos b))
    by_zero true true p q = refl
    by_zero false false p q = omega (arith, ints)
    by_zero true false p q = absurd (let x : true ≡ false = sym p ∙ same ∙ q in cc)
    by_zero false true p q = absurd (let x : false ≡ true = sym p ∙ same ∙ q in cc)

rests-differ : (a b d e : Numbers) → (d.first == 0) ≡ (e.first == 0) → (d.second == 0) ≡ (e.second == 0) → (rest_of_both a d -ℤ rest_of_both b d) ≡ (rest_of_both a e -ℤ rest_of_both b e)
unfolding rest_of_both
rests-differ a b d e first second =
    let p = rest-differs a.first b.first d.first e.first first in
    let q = rest-differs a.second b.second d.second e.second second in
    omega (arith, ints, p, q)

pub dimensions-alike : (a b d e : Numbers) → (d.first == 0) ≡ (e.first == 0) → (d.second == 0) ≡ (e.second == 0) → dimensions_answer a b d ≡ dimensions_answer a b e
unfolding dimensions_answer
dimensions-alike a b d e first second =
    smaller_answer-grown _ _ _ _ (rests-differ a b d e first second) (rests-differ b a d e first second)
