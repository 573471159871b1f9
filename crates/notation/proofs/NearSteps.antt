-- How near the decimals of an exact number are.
use Rattle.std.proofs.Common.{◌≡◌, ℕ, zero, suc, ◌+◌, ◌*◌, ◌/◌, ◌^◌, ◌<◌, ◌≤◌, ◌==◌, nat_lt, Bool, true, false, List, [], ◌∷◌, Option, Some, None, unwrap_or, refl, sym, ap, inl, inr, arith, subst}
use Rattle.std.specs.Prelude.{find}
use Rattle.std.specs.List.{range_with_len}
use Rattle.std.proofs.Math.Nat.{mul-le-mul_right, mul_assoc, one-le-pow}
use Rattle.std.proofs.Math.Pow.{pow_mono}
use Rattle.std.proofs.lemmas.Bool.{cases_Bool, ltb-true, ltb-false, eqb-true}
use Rattle.std.proofs.lemmas.Grind.{pow_more}
use Rattle.notation.specs.declared.exact.Exact.{Exact}
use Rattle.notation.specs.Decimal.{nearest, distance, is_near, most_places, places_of, IsSmall}
use Rattle.notation.specs.FloatNotation.{at_least_one}

-- units `q` of which so many, `power`, are a whole, of a number over `unit`
pub record AreNear (q power number last unit : ℕ) : Type 0 where
  pub below : 2 * (q * unit) < 2 * (number * power) + last * power
  pub above : 2 * (number * power) < 2 * (q * unit) + last * power

-- the nearest is no farther than half of a unit
pub record AreNearest (q power number unit : ℕ) : Type 0 where
  pub below : 2 * (q * unit) ≤ 2 * (number * power) + unit
  pub above : 2 * (number * power) ≤ 2 * (q * unit) + unit

halved : (n unit double q : ℕ) → 1 ≤ unit → double ≡ 2 * unit → (2 * n + unit) / double ≡ q → (2 * (q * unit) ≤ 2 * n + unit) × (2 * n ≤ 2 * (q * unit) + unit)
halved n unit double q some is e = rw (← e, is) (omega arith, omega arith)

pub nearest-is : (exact : Exact) (places : ℕ) → AreNearest (nearest exact places) (10 ^ places) exact.number (2 ^ exact.radix)
nearest-is exact places =
    let unit = 2 ^ exact.radix in
    let some : 1 ≤ unit = one-le-pow exact.radix 2 (omega arith) in
    let double : 2 ^ (exact.radix + 1) ≡ 2 * unit = omega (arith, pow_more 2 exact.radix) in
    let is = halved (exact.number * 10 ^ places) unit (2 ^ (exact.radix + 1)) (nearest exact places) some double (ap (λ (n : ℕ). (n + unit) / 2 ^ (exact.radix + 1)) (sym (mul_assoc 2 exact.number (10 ^ places)))) in
    record { below = is.0; above = is.1 }

-- near by test
pub near-is : (exact : Exact) (places : ℕ) → is_near exact places ≡ true → AreNear (nearest exact places) (10 ^ places) exact.number exact.last (2 ^ exact.radix)
unfolding is_near
near-is exact places near =
    let less = ltb-true (2 * distance exact places) (exact.last * 10 ^ places) near in
    record { below = omega (arith, less); above = omega (arith, less) }

-- where none of the fewer digits are near, so many are
last_near : (exact : Exact) → IsSmall exact → 1 ≤ exact.last → AreNear (nearest exact most_places) (10 ^ most_places) exact.number exact.last (2 ^ exact.radix)
last_near exact small some =
    let is = nearest-is exact most_places in
    let unit : 2 ^ exact.radix ≤ 2 ^ 59 = pow_mono small.radix in
    let power : 10 ^ most_places ≤ exact.last * 10 ^ most_places = omega (arith, some) in
    record { below = omega (arith, is.below, unit, power); above = omega (arith, is.above, unit, power) }

found_near : (exact : Exact) (ns : List ℕ) (places : ℕ) → find (is_near exact) ns ≡ Some places → is_near exact places ≡ true
found_near exact [] places found = absurd cc
found_near exact (n ∷ ns) places found = elim (cases_Bool (is_near exact n)) [
  | inl here ↦ (let first = rw here at found in let same : n ≡ places = cc in rw (← same) here)
  | inr other ↦ found_near exact ns places (rw other at found)
]

abbrev pub IsNearAt : Exact → ℕ → Type 0
IsNearAt exact places = AreNear (nearest exact places) (10 ^ places) exact.number exact.last (2 ^ exact.radix)

pub places-near : (exact : Exact) → IsSmall exact → 1 ≤ exact.last → IsNearAt exact (places_of exact)
unfolding places_of
places-near exact small some = by (find (is_near exact) (range_with_len 0 most_places)) refl
  where
    by : (o : Option ℕ) → find (is_near exact) (range_with_len 0 most_places) ≡ o → IsNearAt exact (unwrap_or o most_places)
    by None e = last_near exact small some
    by (Some places) e = near-is exact places (found_near exact (range_with_len 0 most_places) places e)

found_below : (p : ℕ → Bool) (a n k : ℕ) → find p (range_with_len a n) ≡ Some k → k < a + n
found_below p a zero k found = absurd cc
found_below p a (suc n) k found = elim (cases_Bool (p a)) [
  | inl here ↦ (let first = rw here at found in let same : a ≡ k = cc in omega (arith, same))
  | inr other ↦ (let later = found_below p (a + 1) n k (rw other at found) in omega (arith, later))
]

pub places-few : (exact : Exact) → places_of exact ≤ 18
unfolding places_of
places-few exact = by (find (is_near exact) (range_with_len 0 most_places)) refl
  where
    by : (o : Option ℕ) → find (is_near exact) (range_with_len 0 most_places) ≡ o → unwrap_or o most_places ≤ 18
    by None e = omega arith
    by (Some places) e = omega (arith, found_below (is_near exact) 0 most_places places e)

-- with one digit more it is as near
more : (q p number last unit : ℕ) → 1 ≤ unit → AreNear q 1 number last unit → AreNearest p 10 number unit → AreNear p 10 number last unit
more q p number last unit some near is = by (nat_lt (10 * q) p) refl
  where
    by : (b : Bool) → nat_lt (10 * q) p ≡ b → AreNear p 10 number last unit
    by true e =
        let above : (10 * q + 1) * unit ≤ p * unit = mul-le-mul_right unit (omega (arith, ltb-true (10 * q) p e)) in
        record { below = omega (arith, near.below, near.above, is.below, is.above, above); above = omega (arith, near.below, near.above, is.below, is.above, above) }
    by false e = elim (cases_Bool (nat_lt p (10 * q))) [
      | inl less ↦
          let under : (p + 1) * unit ≤ (10 * q) * unit = mul-le-mul_right unit (omega (arith, ltb-true p (10 * q) less)) in
          record { below = omega (arith, near.below, near.above, is.below, is.above, under); above = omega (arith, near.below, near.above, is.below, is.above, under) }
      | inr no_less ↦
          let same : p ≡ 10 * q = omega (arith, ltb-false (10 * q) p e, ltb-false p (10 * q) no_less) in
          let units = ap (λ (n : ℕ). n * unit) same in
          record { below = omega (arith, near.below, near.above, units); above = omega (arith, near.below, near.above, units) }
    ]

pub one-near : (exact : Exact) (places : ℕ) → IsNearAt exact places → IsNearAt exact (at_least_one places)
one-near exact places near = elim (cases_Bool (places == 0)) [
  | inl none ↦
      let first : IsNearAt exact 0 = subst (λ (k : ℕ). IsNearAt exact k) (eqb-true places 0 none) near in
      rw none (more (nearest exact 0) (nearest exact 1) exact.number exact.last (2 ^ exact.radix) (one-le-pow exact.radix 2 (omega arith)) first (nearest-is exact 1))
  | inr some ↦ rw some near
]
