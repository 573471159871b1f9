-- A float is determined by its decimal.
use Rattle.std.proofs.Common.{◌≡◌, ℕ, zero, suc, ◌+◌, ◌-◌, ◌*◌, ◌/◌, ◌%◌, ◌^◌, ◌<◌, ◌≤◌, ◌==◌, nat_le, nat_lt, not, Bool, true, false, refl, sym, ◌∙◌, inl, inr, arith, subst}
use Rattle.std.proofs.Math.Nat.{mul-le-mul, mul-le-mul_right, mul-le-mul_left, one-le-pow}
use Rattle.std.proofs.Math.Pow.{pow_mono}
use Rattle.std.proofs.lemmas.Nat.{pow-add}
use Rattle.std.proofs.lemmas.Bool.{cases_Bool, and_parts, eqb-true, leb-true, ltb-true, ltb-false}
use Rattle.notation.specs.Decimal.{nearest, places_of, IsSmall}
use Rattle.notation.specs.FloatNotation.{exponent_of, fraction_of, gap_of, exact_float, has_decimal, at_least_one}
use Rattle.notation.proofs.DecimalTexts.{IsUnits}
use Rattle.notation.proofs.NearSteps.{IsNearAt, places-near, places-few, one-near}
use Rattle.notation.proofs.ComplexLaw.{units-fit}

abbrev scale_of : ℕ → ℕ
scale_of word = 2 ^ (exponent_of word - 151)

abbrev unit_of : ℕ → ℕ
unit_of word = 2 ^ (151 - exponent_of word)

abbrev significand : ℕ → ℕ
significand word = 2 ^ 23 + fraction_of word

record HasDecimal (word : ℕ) : Type 0 where
  least : 92 ≤ exponent_of word
  most : exponent_of word ≤ 185

record GapBounds (word : ℕ) : Type 0 where
  some : 1 ≤ gap_of word
  few : gap_of word ≤ 2
  low : 33554431 + gap_of word ≤ 4 * significand word
  high : 4 * significand word + gap_of word ≤ 67108862

fraction_some : (n : ℕ) → (n == 0) ≡ false → 1 ≤ n
fraction_some zero e = absurd cc
fraction_some (suc n) e = omega arith

gap-bounds : (word : ℕ) → GapBounds word
gap-bounds word = elim (cases_Bool (fraction_of word == 0)) [
  | inl none ↦ (let gap : gap_of word ≡ 1 = rw none refl in record { some = omega (arith, gap); few = omega (arith, gap); low = omega (arith, gap); high = omega (arith, gap) })
  | inr some ↦ (let gap : gap_of word ≡ 2 = rw some refl in record { some = omega (arith, gap); few = omega (arith, gap); low = omega (arith, gap, fraction_some (fraction_of word) some); high = omega (arith, gap) })
]

scale-few : (word : ℕ) → HasDecimal word → scale_of word ≤ 2 ^ 34
scale-few word is = let shift : exponent_of word - 151 ≤ 34 = omega (arith, is.most) in pow_mono shift

scale-some : (word : ℕ) → 1 ≤ scale_of word
scale-some word = one-le-pow (exponent_of word - 151) 2 (omega arith)

small-float : (word : ℕ) → HasDecimal word → IsSmall (exact_float word)
unfolding exact_float
small-float word is =
    let scale = scale-few word is in
    let gaps = gap-bounds word in
    let number : 2 * significand word * scale_of word ≤ 2 ^ 25 * 2 ^ 34 = (let significands : 2 * significand word ≤ 2 ^ 25 = omega arith in mul-le-mul significands scale) in
    let last : gap_of word * scale_of word ≤ 2 * 2 ^ 34 = mul-le-mul gaps.few scale in
    record { number = omega (arith, number); last = omega (arith, last); radix = omega (arith, is.least) }

last-some : (word : ℕ) → 1 ≤ (exact_float word).last
unfolding exact_float
last-some word = mul-le-mul (gap-bounds word).some (scale-some word)

-- so many units, of which `power` are a whole, are near to the float
pub record IsNearFloat (word u power : ℕ) : Type 0 where
  pub below : 2 * (u * unit_of word) < 2 * (2 * significand word * scale_of word * power) + gap_of word * scale_of word * power
  pub above : 2 * (2 * significand word * scale_of word * power) < 2 * (u * unit_of word) + gap_of word * scale_of word * power

near-float : (word places : ℕ) → IsNearAt (exact_float word) places → IsNearFloat word (nearest (exact_float word) places) (10 ^ places)
unfolding exact_float
near-float word places is = record { below = is.below; above = is.above }

-- a float lies between these, times what is a whole
lower : (word u power : ℕ) → IsNearFloat word u power → 33554431 * (scale_of word * power) < 2 * (u * unit_of word)
lower word u power is =
    let product : (33554431 + gap_of word) * (scale_of word * power) ≤ 4 * significand word * (scale_of word * power) = mul-le-mul_right (scale_of word * power) (gap-bounds word).low in
    omega (arith, is.above, product)

upper : (word u power : ℕ) → IsNearFloat word u power → 2 * (u * unit_of word) < 67108862 * (scale_of word * power)
upper word u power is =
    let product : (4 * significand word + gap_of word) * (scale_of word * power) ≤ 67108862 * (scale_of word * power) = mul-le-mul_right (scale_of word * power) (gap-bounds word).high in
    omega (arith, is.below, product)

-- one more in the exponent is at least twice as much
twice : (v w : ℕ) → exponent_of v < exponent_of w → 2 * (scale_of v * unit_of w) ≤ scale_of w * unit_of v
twice v w less =
    let a = exponent_of v - 151 in
    let b = 151 - exponent_of w in
    let c = exponent_of w - 151 in
    let d = 151 - exponent_of v in
    let sums : 1 + (a + b) ≤ c + d = omega (arith, less) in
    let powers : 2 ^ (1 + (a + b)) ≤ 2 ^ (c + d) = pow_mono sums in
    omega (arith, powers, pow-add 2 1 (a + b), pow-add 2 a b, pow-add 2 c d)

unit-some : (word : ℕ) → 1 ≤ unit_of word
unit-some word = one-le-pow (151 - exponent_of word) 2 (omega arith)

-- so no units are near to floats of two exponents
exponents-apart : (v w u power : ℕ) → exponent_of v < exponent_of w → IsNearFloat v u power → IsNearFloat w u power → ⊥
exponents-apart v w u power less p q =
    let up : 2 * (u * unit_of v) + 1 ≤ 67108862 * (scale_of v * power) = omega (arith, upper v u power p) in
    let down : 33554431 * (scale_of w * power) + 1 ≤ 2 * (u * unit_of w) = omega (arith, lower w u power q) in
    let high : (2 * (u * unit_of v) + 1) * unit_of w ≤ 67108862 * (scale_of v * power) * unit_of w = mul-le-mul_right (unit_of w) up in
    let low : (33554431 * (scale_of w * power) + 1) * unit_of v ≤ 2 * (u * unit_of w) * unit_of v = mul-le-mul_right (unit_of v) down in
    let more : 33554431 * power * (2 * (scale_of v * unit_of w)) ≤ 33554431 * power * (scale_of w * unit_of v) = mul-le-mul_left (33554431 * power) (twice v w less) in
    omega (arith, high, low, more, unit-some v, unit-some w)

-- with one exponent
significands_apart : (u scale unit power one other gap another : ℕ) → one + 1 ≤ other → gap ≤ 2 → another ≤ 2
    → 2 * (u * unit) < 2 * (2 * one * scale * power) + gap * scale * power → 2 * (2 * other * scale * power) < 2 * (u * unit) + another * scale * power → ⊥
significands_apart u scale unit power one other gap another more few also below above =
    let products : (one + 1) * (scale * power) ≤ other * (scale * power) = mul-le-mul_right (scale * power) more in
    let first : gap * (scale * power) ≤ 2 * (scale * power) = mul-le-mul_right (scale * power) few in
    let second : another * (scale * power) ≤ 2 * (scale * power) = mul-le-mul_right (scale * power) also in
    omega (arith, below, above, products, first, second)

fractions-apart : (v w u power : ℕ) → exponent_of v ≡ exponent_of w → fraction_of v < fraction_of w → IsNearFloat v u power → IsNearFloat w u power → ⊥
fractions-apart v w u power same less p q =
    let above : 2 * (2 * significand w * scale_of v * power) < 2 * (u * unit_of v) + gap_of w * scale_of v * power =
    subst (λ (e : ℕ). 2 * (2 * significand w * 2 ^ (e - 151) * power) < 2 * (u * 2 ^ (151 - e)) + gap_of w * 2 ^ (e - 151) * power) (sym same) q.above in
    significands_apart u (scale_of v) (unit_of v) power (significand v) (significand w) (gap_of v) (gap_of w) (omega (arith, less)) (gap-bounds v).few (gap-bounds w).few p.below above

near-same : (v w u power : ℕ) → IsNearFloat v u power → IsNearFloat w u power → (exponent_of v ≡ exponent_of w) × (fraction_of v ≡ fraction_of w)
near-same v w u power p q = elim (cases_Bool (nat_lt (exponent_of v) (exponent_of w))) [
  | inl less ↦ absurd (exponents-apart v w u power (ltb-true (exponent_of v) (exponent_of w) less) p q)
  | inr no_less ↦ elim (cases_Bool (nat_lt (exponent_of w) (exponent_of v))) [
    | inl greater ↦ absurd (exponents-apart w v u power (ltb-true (exponent_of w) (exponent_of v) greater) q p)
    | inr no_greater ↦ (
        let same : exponent_of v ≡ exponent_of w = omega (arith, ltb-false (exponent_of v) (exponent_of w) no_less, ltb-false (exponent_of w) (exponent_of v) no_greater) in
        elim (cases_Bool (nat_lt (fraction_of v) (fraction_of w))) [
          | inl less ↦ absurd (fractions-apart v w u power same (ltb-true (fraction_of v) (fraction_of w) less) p q)
          | inr no_fraction ↦ elim (cases_Bool (nat_lt (fraction_of w) (fraction_of v))) [
            | inl greater ↦ absurd (fractions-apart w v u power (sym same) (ltb-true (fraction_of w) (fraction_of v) greater) q p)
            | inr none ↦ (same, omega (arith, ltb-false (fraction_of v) (fraction_of w) no_fraction, ltb-false (fraction_of w) (fraction_of v) none))
          ]
        ]
        )
  ]
]

-- ---- what is shown of a float

pub data FloatShows (word places units : ℕ) : Type 0 where
  nothing : word % 2 ^ 31 ≡ 0 → places ≡ 1 → units ≡ 0 → FloatShows word places units
  something : IsUnits places units → IsNearFloat word units (10 ^ places) → FloatShows word places units

abbrev pub is_negative_float : ℕ → Bool
is_negative_float word = not (word / 2 ^ 31 == 0)

-- a float is not near to nothing
not_near : (word power : ℕ) → 1 ≤ power → IsNearFloat word 0 power → ⊥
not_near word power some is =
    let product : 1 * 1 ≤ scale_of word * power = mul-le-mul (scale-some word) some in
    omega (arith, lower word 0 power is, product)

same_top : (a b : ℕ) → a < 2 → b < 2 → not (a == 0) ≡ not (b == 0) → a ≡ b
same_top a b p q e = elim (cases_Bool (a == 0)) [
  | inl none ↦ elim (cases_Bool (b == 0)) [
    | inl also ↦ eqb-true a 0 none ∙ sym (eqb-true b 0 also)
    | inr some ↦ absurd (let differ = rw (none, some) at e in cc)
  ]
  | inr some ↦ elim (cases_Bool (b == 0)) [
    | inl none ↦ absurd (let differ = rw (some, none) at e in cc)
    | inr also ↦ omega (arith, p, q, fraction_some a some, fraction_some b also)
  ]
]

same_float : (v w : ℕ) → v < 2 ^ 32 → w < 2 ^ 32 → is_negative_float v ≡ is_negative_float w → exponent_of v ≡ exponent_of w → fraction_of v ≡ fraction_of w → v ≡ w
same_float v w p q signs exponents fractions =
    let top : v / 2 ^ 31 ≡ w / 2 ^ 31 = same_top (v / 2 ^ 31) (w / 2 ^ 31) (omega (arith, p)) (omega (arith, q)) signs in
    omega (arith, top, exponents, fractions)

pub float-same : (v w places units : ℕ) → v < 2 ^ 32 → w < 2 ^ 32 → is_negative_float v ≡ is_negative_float w → FloatShows v places units → FloatShows w places units → v ≡ w
float-same v w places units p q signs (nothing none one zero_is) (nothing also two zeros) = same_float v w p q signs (omega (arith, none, also)) (omega (arith, none, also))
float-same v w places units p q signs (nothing none one zero_is) (something is near) =
    absurd (not_near w (10 ^ places) (one-le-pow places 10 (omega arith)) (subst (λ (u : ℕ). IsNearFloat w u (10 ^ places)) zero_is near))
float-same v w places units p q signs (something is near) (nothing also two zeros) =
    absurd (not_near v (10 ^ places) (one-le-pow places 10 (omega arith)) (subst (λ (u : ℕ). IsNearFloat v u (10 ^ places)) zeros near))
float-same v w places units p q signs (something is near) (something also far) =
    let parts = near-same v w units (10 ^ places) near far in same_float v w p q signs parts.0 parts.1

-- the text of a float is its sign and a decimal
pub shows-float : (word : ℕ) → has_decimal word ≡ true → FloatShows word (at_least_one (places_of (exact_float word))) (nearest (exact_float word) (at_least_one (places_of (exact_float word))))
shows-float word test =
    let both = and_parts (nat_le 92 (exponent_of word)) (nat_le (exponent_of word) 185) test in
    let is : HasDecimal word = record { least = leb-true 92 (exponent_of word) both.0; most = leb-true (exponent_of word) 185 both.1 } in
    let exact = exact_float word in
    let places = at_least_one (places_of exact) in
    let near = one-near exact (places_of exact) (places-near exact (small-float word is) (last-some word)) in
    something (units-fit exact places (small-float word is) (few (places_of exact) (places-few exact))) (near-float word places near)
  where
    few : (places : ℕ) → places ≤ 18 → at_least_one places ≤ 18
    few places most = elim (cases_Bool (places == 0)) [
      | inl none ↦ rw none (omega arith)
      | inr some ↦ rw some most
    ]

pub some_places : (places : ℕ) → (at_least_one places == 0) ≡ false
some_places places = elim (cases_Bool (places == 0)) [
  | inl none ↦ rw none refl
  | inr some ↦ rw (some, some) refl
]
