-- A number that a dimension or a fraction has is determined by its decimal.
use Rattle.std.proofs.Common.{◌≡◌, ◌≢◌, ℕ, zero, suc, ◌+◌, ◌*◌, ◌/◌, ◌%◌, ◌^◌, ◌<◌, ◌≤◌, ◌==◌, ◌&&◌, ◌||◌, not, nat_le, nat_lt, Bool, true, false, if◌then◌else◌, pos, int_lt, slice_index, [], ◌∷◌, ◌⊎◌, refl, sym, ap, ◌∙◌, inl, inr, arith, subst}
use Rattle.std.proofs.Math.Nat.{mul-le-mul, mul-le-mul_right, mul-le-mul_left, one-le-pow, div-mul-le_self, le_of_mul-le-mul_right}
use Rattle.std.proofs.lemmas.Bool.{cases_Bool, and_parts, eqb-true, eq-eqb, leb-true, ltb-true, ltb-false, lt-ltb}
use Rattle.res_value.specs.Complex.{mantissa_of, radix_of, unit_of}
use Rattle.notation.specs.declared.exact.Exact.{Exact}
use Rattle.notation.specs.Decimal.{nearest, places_of, IsSmall}
use Rattle.notation.specs.ComplexNotation.{size_of, spare_bits, has_own_radix, exact_of}
use Rattle.notation.proofs.DecimalTexts.{IsUnits}
use Rattle.notation.proofs.NearSteps.{AreNear, AreNearest, nearest-is, places-near, places-few}

-- `u` units, of which `scale` are one, are near to `size`, of which `unit` are one
pub record IsNear (u scale size unit : ℕ) : Type 0 where
  pub below : 2 * (u * unit) < 2 * (size * scale) + scale
  pub above : 2 * (size * scale) < 2 * (u * unit) + scale

-- with one unit
same_unit : (u scale one other unit : ℕ) → IsNear u scale one unit → IsNear u scale other unit → one ≡ other
same_unit u scale one other unit p q = elim (cases_Bool (nat_lt one other)) [
  | inl less ↦ (let more : (one + 1) * scale ≤ other * scale = mul-le-mul_right scale (omega (arith, ltb-true one other less)) in absurd (omega (arith, p.below, q.above, more)))
  | inr no_less ↦ elim (cases_Bool (nat_lt other one)) [
    | inl greater ↦ (let more : (other + 1) * scale ≤ one * scale = mul-le-mul_right scale (omega (arith, ltb-true other one greater)) in absurd (omega (arith, q.below, p.above, more)))
    | inr no_greater ↦ omega (arith, ltb-false one other no_less, ltb-false other one no_greater)
  ]
]

-- a whole number is near to no number with a fraction
whole_apart : (u scale one other unit : ℕ) → u ≡ one * scale → 1 ≤ scale → IsNear u scale other unit → other ≡ one * unit
whole_apart u scale one other unit whole some q =
    let same : u * unit ≡ one * unit * scale = rw whole (omega arith) in
    elim (cases_Bool (nat_lt other (one * unit))) [
      | inl less ↦ (let more : (other + 1) * scale ≤ one * unit * scale = mul-le-mul_right scale (omega (arith, ltb-true other (one * unit) less)) in absurd (omega (arith, q.below, same, more)))
      | inr no_less ↦ elim (cases_Bool (nat_lt (one * unit) other)) [
        | inl greater ↦ (let more : (one * unit + 1) * scale ≤ other * scale = mul-le-mul_right scale (omega (arith, ltb-true (one * unit) other greater)) in absurd (omega (arith, q.above, same, more)))
        | inr no_greater ↦ omega (arith, ltb-false other (one * unit) no_less, ltb-false (one * unit) other no_greater)
      ]
    ]

-- where the point of a number stands, and so how great it is
data Own (u scale size radix : ℕ) : Type 0 where
  whole : radix ≡ 0 → u ≡ size * scale → Own u scale size radix
  seven : radix ≡ 7 → size % 128 ≢ 0 → 256 * scale < u → Own u scale size radix
  fifteen : radix ≡ 15 → size % 32768 ≢ 0 → scale < u → u < 256 * scale → Own u scale size radix
  twenty_three : radix ≡ 23 → size % 8388608 ≢ 0 → u < scale → Own u scale size radix

at_unit : (u scale size radix n : ℕ) → radix ≡ n → IsNear u scale size (2 ^ radix) → IsNear u scale size (2 ^ n)
at_unit u scale size radix n is near = subst (λ (r : ℕ). IsNear u scale size (2 ^ r)) is near

same_radix : (u scale one other radix another : ℕ) → radix ≡ another → IsNear u scale one (2 ^ radix) → IsNear u scale other (2 ^ another) → (one ≡ other) × (radix ≡ another)
same_radix u scale one other radix another is p q = (same_unit u scale one other (2 ^ another) (at_unit u scale one radix another is p) q, is)

own-same : (u scale one other radix another : ℕ) → 1 ≤ scale → IsNear u scale one (2 ^ radix) → IsNear u scale other (2 ^ another) → Own u scale one radix → Own u scale other another
    → (one ≡ other) × (radix ≡ another)
own-same u scale one other radix another some p q (whole r is) (whole s also) = same_radix u scale one other radix another (r ∙ sym s) p q
own-same u scale one other radix another some p q (whole r is) (seven s rest above) =
    absurd (rest (let found = whole_apart u scale one other 128 is some (at_unit u scale other another 7 s q) in omega (arith, found)))
own-same u scale one other radix another some p q (whole r is) (fifteen s rest above below) =
    absurd (rest (let found = whole_apart u scale one other 32768 is some (at_unit u scale other another 15 s q) in omega (arith, found)))
own-same u scale one other radix another some p q (whole r is) (twenty_three s rest below) =
    absurd (rest (let found = whole_apart u scale one other 8388608 is some (at_unit u scale other another 23 s q) in omega (arith, found)))
own-same u scale one other radix another some p q (seven r rest above) (whole s is) =
    absurd (rest (let found = whole_apart u scale other one 128 is some (at_unit u scale one radix 7 r p) in omega (arith, found)))
own-same u scale one other radix another some p q (fifteen r rest above below) (whole s is) =
    absurd (rest (let found = whole_apart u scale other one 32768 is some (at_unit u scale one radix 15 r p) in omega (arith, found)))
own-same u scale one other radix another some p q (twenty_three r rest below) (whole s is) =
    absurd (rest (let found = whole_apart u scale other one 8388608 is some (at_unit u scale one radix 23 r p) in omega (arith, found)))
own-same u scale one other radix another some p q (seven r rest above) (seven s none over) = same_radix u scale one other radix another (r ∙ sym s) p q
own-same u scale one other radix another some p q (fifteen r rest above below) (fifteen s none over under) = same_radix u scale one other radix another (r ∙ sym s) p q
own-same u scale one other radix another some p q (twenty_three r rest below) (twenty_three s none under) = same_radix u scale one other radix another (r ∙ sym s) p q
own-same u scale one other radix another some p q (seven r rest above) (fifteen s none over under) = absurd (omega (arith, above, under))
own-same u scale one other radix another some p q (seven r rest above) (twenty_three s none under) = absurd (omega (arith, above, under))
own-same u scale one other radix another some p q (fifteen r rest above below) (seven s none over) = absurd (omega (arith, below, over))
own-same u scale one other radix another some p q (fifteen r rest above below) (twenty_three s none under) = absurd (omega (arith, above, under))
own-same u scale one other radix another some p q (twenty_three r rest below) (seven s none over) = absurd (omega (arith, below, over))
own-same u scale one other radix another some p q (twenty_three r rest below) (fifteen s none over under) = absurd (omega (arith, below, over))

-- ---- from the test of a word

band_23 : (u scale size : ℕ) → size ≤ 8388608 → size % 8388608 ≢ 0 → IsNear u scale size 8388608 → u < scale
band_23 u scale size few rest near =
    let less : size ≤ 8388607 = omega (arith, few, rest) in
    let product : size * scale ≤ 8388607 * scale = mul-le-mul_right scale less in
    omega (arith, near.below, product)

band_15 : (u scale size : ℕ) → size ≤ 8388608 → size % 32768 ≢ 0 → 32768 ≤ size → IsNear u scale size 32768 → (scale < u) × (u < 256 * scale)
band_15 u scale size few rest many near =
    let less : size ≤ 8388607 = omega (arith, few, rest) in
    let more : 32769 ≤ size = omega (arith, many, rest) in
    let over : 32769 * scale ≤ size * scale = mul-le-mul_right scale more in
    let under : size * scale ≤ 8388607 * scale = mul-le-mul_right scale less in
    (omega (arith, near.above, over), omega (arith, near.below, under))

band_7 : (u scale size : ℕ) → 32768 ≤ size → size % 128 ≢ 0 → IsNear u scale size 128 → 256 * scale < u
band_7 u scale size many rest near =
    let more : 32769 ≤ size = omega (arith, many, rest) in
    let over : 32769 * scale ≤ size * scale = mul-le-mul_right scale more in
    omega (arith, near.above, over)

-- ---- a word

by_bound : (q n unit : ℕ) → 1 ≤ unit → 2 * (q * unit) ≤ 2 * n + unit → q ≤ n + 1
by_bound q n unit least below = elim (cases_Bool (nat_lt (n + 1) q)) [
  | inl more ↦ absurd (
      let over : (n + 2) * unit ≤ q * unit = mul-le-mul_right unit (omega (arith, ltb-true (n + 1) q more)) in
      let each : n * 1 ≤ n * unit = mul-le-mul_left n least in
      omega (arith, over, each, below, least)
      )
  | inr other ↦ ltb-false (n + 1) q other
]

pub units-fit : (exact : Exact) (places : ℕ) → IsSmall exact → places ≤ 18 → IsUnits places (nearest exact places)
units-fit exact places small few =
    let power : 1 ≤ 10 ^ places = one-le-pow places 10 (omega arith) in
    let unit : 1 ≤ 2 ^ exact.radix = one-le-pow exact.radix 2 (omega arith) in
    let is = nearest-is exact places in
    record { few_places = few; whole = whole_fits (nearest exact places) (10 ^ places) exact.number (2 ^ exact.radix) power unit is.below small.number }
  where
    whole_fits : (q power number unit : ℕ) → 1 ≤ power → 1 ≤ unit → 2 * (q * unit) ≤ 2 * (number * power) + unit → number < 2 ^ 60 → q / power < 2 ^ 64
    whole_fits q power number unit some least below small =
        let bound : q ≤ number * power + 1 = by_bound q (number * power) unit least below in
        let product : q / power * power ≤ (number + 1) * power = omega (arith, div-mul-le_self q power, bound, some) in
        omega (arith, le_of_mul-le-mul_right product some, small)

abbrev pub is_negative : ℕ → Bool
is_negative word = int_lt (mantissa_of word) (pos 0)

-- the number of its higher bits
abbrev high_bits : ℕ → ℕ
high_bits word = word / 2 ^ 8

less_false : (m n : ℕ) → n ≤ m → nat_lt m n ≡ false
less_false m n least = elim (cases_Bool (nat_lt m n)) [
  | inl less ↦ absurd (omega (arith, least, ltb-true m n less))
  | inr other ↦ other
]

small_size : (word : ℕ) → nat_lt (high_bits word) (2 ^ 23) ≡ true → (size_of word ≡ high_bits word) × (is_negative word ≡ false)
small_size word small = (rw small refl, rw small (less_false (high_bits word) 0 (omega arith)))

great_size : (word : ℕ) → word < 2 ^ 32 → nat_lt (high_bits word) (2 ^ 23) ≡ false → (size_of word + high_bits word ≡ 2 ^ 24) × (is_negative word ≡ true)
great_size word fits great =
    let under : nat_lt (high_bits word) (2 ^ 24) ≡ true = lt-ltb (high_bits word) (2 ^ 24) (omega (arith, fits)) in
    (rw (great, under) (omega (arith, fits)), rw (great, under) refl)

abbrev index_of : ℕ → ℕ
index_of radix = if radix == 0 then 0 else if radix == 7 then 1 else if radix == 15 then 2 else 3

index-is : (i : ℕ) → i < 4 → index_of (slice_index (0 ∷ 7 ∷ 15 ∷ 23 ∷ []) i) ≡ i
index-is zero small = refl
index-is (suc zero) small = refl
index-is (suc (suc zero)) small = refl
index-is (suc (suc (suc zero))) small = refl
index-is (suc (suc (suc (suc i)))) small = absurd (omega (arith, small))

same_high : (v w : ℕ) → v < 2 ^ 32 → w < 2 ^ 32 → is_negative v ≡ is_negative w → size_of v ≡ size_of w → high_bits v ≡ high_bits w
same_high v w p q signs sizes = elim (cases_Bool (nat_lt (high_bits v) (2 ^ 23))) [
  | inl small ↦ elim (cases_Bool (nat_lt (high_bits w) (2 ^ 23))) [
    | inl also ↦ sym (small_size v small).0 ∙ sizes ∙ (small_size w also).0
    | inr great ↦ absurd (let differ : false ≡ true = sym (small_size v small).1 ∙ signs ∙ (great_size w q great).1 in cc)
  ]
  | inr great ↦ elim (cases_Bool (nat_lt (high_bits w) (2 ^ 23))) [
    | inl small ↦ absurd (let differ : true ≡ false = sym (great_size v p great).1 ∙ signs ∙ (small_size w small).1 in cc)
    | inr also ↦ omega (arith, sizes, (great_size v p great).0, (great_size w q also).0)
  ]
]

-- a word is made of its parts
pub same_word : (v w : ℕ) → v < 2 ^ 32 → w < 2 ^ 32 → is_negative v ≡ is_negative w → size_of v ≡ size_of w → radix_of v ≡ radix_of w → unit_of v ≡ unit_of w → spare_bits v ≡ spare_bits w → v ≡ w
same_word v w p q signs sizes radixes units spares =
    let highs = same_high v w p q signs sizes in
    let indexes : v / 2 ^ 4 % 2 ^ 2 ≡ w / 2 ^ 4 % 2 ^ 2 = sym (index-is (v / 2 ^ 4 % 2 ^ 2) (omega arith)) ∙ ap index_of radixes ∙ index-is (w / 2 ^ 4 % 2 ^ 2) (omega arith) in
    omega (arith, highs, indexes, units, spares)

-- ---- the decimal of a word

size-few : (word : ℕ) → word < 2 ^ 32 → size_of word ≤ 8388608
size-few word fits = elim (cases_Bool (nat_lt (high_bits word) (2 ^ 23))) [
  | inl small ↦ omega (arith, (small_size word small).0, ltb-true (high_bits word) (2 ^ 23) small)
  | inr great ↦ omega (arith, (great_size word fits great).0, ltb-false (high_bits word) (2 ^ 23) great)
]

pub radix-few : (i : ℕ) → slice_index (0 ∷ 7 ∷ 15 ∷ 23 ∷ []) i ≤ 23
radix-few zero = omega arith
radix-few (suc zero) = omega arith
radix-few (suc (suc zero)) = omega arith
radix-few (suc (suc (suc zero))) = omega arith
radix-few (suc (suc (suc (suc i)))) = omega arith

pub small-of : (times word : ℕ) → word < 2 ^ 32 → times ≤ 100 → IsSmall (exact_of times word)
small-of times word fits few =
    let size : times * size_of word ≤ 100 * 8388608 = mul-le-mul few (size-few word fits) in
    record { number = omega (arith, size); last = omega (arith, few); radix = omega (arith, radix-few (word / 2 ^ 4 % 2 ^ 2)) }

-- what is shown of a word: so many places, so many units
pub record Shows (times word places units : ℕ) : Type 0 where
  pub few : places ≤ 18
  pub is_units : IsUnits places units
  pub near : AreNear units (10 ^ places) (times * size_of word) times (2 ^ radix_of word)
  pub whole : radix_of word ≡ 0 → units ≡ size_of word * (times * 10 ^ places)

whole-nearest : (q power times size unit : ℕ) → AreNearest q power (times * size) unit → unit ≡ 1 → q ≡ size * (times * power)
whole-nearest q power times size unit is one = omega (arith, is.below, is.above, one, ap (λ (u : ℕ). q * u) one)

pub shows : (times word : ℕ) → word < 2 ^ 32 → 1 ≤ times → times ≤ 100 → Shows times word (places_of (exact_of times word)) (nearest (exact_of times word) (places_of (exact_of times word)))
shows times word fits some few =
    let exact = exact_of times word in
    let small = small-of times word fits few in
    let places = places_of exact in
    record {
      few = places-few exact;
      is_units = units-fit exact places small (places-few exact);
      near = places-near exact small some;
      whole = λ none.
          whole-nearest (nearest exact places) (10 ^ places) times (size_of word) (2 ^ radix_of word) (nearest-is exact places) (ap (λ (r : ℕ). 2 ^ r) none);
    }

radix-cases : (i : ℕ) → let r = slice_index (0 ∷ 7 ∷ 15 ∷ 23 ∷ []) i in (r ≡ 0) ⊎ ((r ≡ 7) ⊎ ((r ≡ 15) ⊎ (r ≡ 23)))
radix-cases zero = inl refl
radix-cases (suc zero) = inr (inl refl)
radix-cases (suc (suc zero)) = inr (inr (inl refl))
radix-cases (suc (suc (suc zero))) = inr (inr (inr refl))
radix-cases (suc (suc (suc (suc i)))) = inl refl

-- the test of a word with a fraction, at its radix
fraction_of : (size radix n : ℕ) → radix ≡ n → (radix == 0) ≡ false → (radix == 0 || (not (size % 2 ^ radix == 0) && (radix == 23 || nat_le (2 ^ 15) size))) ≡ true
    → (size % 2 ^ n ≢ 0) × ((n == 23 || nat_le (2 ^ 15) size) ≡ true)
fraction_of size radix n is some test =
    let both = and_parts (not (size % 2 ^ radix == 0)) (radix == 23 || nat_le (2 ^ 15) size) (rw some at test) in
    let at_n : not (size % 2 ^ n == 0) ≡ true = subst (λ (r : ℕ). not (size % 2 ^ r == 0) ≡ true) is both.0 in
    let many : (n == 23 || nat_le (2 ^ 15) size) ≡ true = subst (λ (r : ℕ). (r == 23 || nat_le (2 ^ 15) size) ≡ true) is both.1 in
    (λ zero_is. (let wrong = rw (eq-eqb (size % 2 ^ n) 0 zero_is) at at_n in cc), many)

pub scale_near : (times word places units : ℕ) → Shows times word places units → IsNear units (times * 10 ^ places) (size_of word) (2 ^ radix_of word)
scale_near times word places units is =
    let same : times * size_of word * 10 ^ places ≡ size_of word * (times * 10 ^ places) = omega arith in
    record { below = omega (arith, is.near.below, same); above = omega (arith, is.near.above, same) }

own-of : (times word places units : ℕ) → word < 2 ^ 32 → Shows times word places units → has_own_radix word ≡ true → Own units (times * 10 ^ places) (size_of word) (radix_of word)
own-of times word places units fits is own = elim (cases_Bool (radix_of word == 0)) [
  | inl none ↦ (let zero_is = eqb-true (radix_of word) 0 none in whole zero_is (is.whole zero_is))
  | inr some ↦ by (radix-cases (word / 2 ^ 4 % 2 ^ 2)) some
]
  where
    near : (n : ℕ) → radix_of word ≡ n → IsNear units (times * 10 ^ places) (size_of word) (2 ^ n)
    near n e = at_unit units (times * 10 ^ places) (size_of word) (radix_of word) n e (scale_near times word places units is)

    by : (radix_of word ≡ 0) ⊎ ((radix_of word ≡ 7) ⊎ ((radix_of word ≡ 15) ⊎ (radix_of word ≡ 23))) → (radix_of word == 0) ≡ false → Own units (times * 10 ^ places) (size_of word) (radix_of word)
    by (inl none) some = absurd (let wrong = rw (eq-eqb (radix_of word) 0 none) at some in cc)
    by (inr (inl e)) some =
        let test = fraction_of (size_of word) (radix_of word) 7 e some own in
        seven e test.0 (band_7 units (times * 10 ^ places) (size_of word) (leb-true (2 ^ 15) (size_of word) test.1) test.0 (near 7 e))
    by (inr (inr (inl e))) some =
        let test = fraction_of (size_of word) (radix_of word) 15 e some own in
        let band = band_15 units (times * 10 ^ places) (size_of word) (size-few word fits) test.0 (leb-true (2 ^ 15) (size_of word) test.1) (near 15 e) in
        fifteen e test.0 band.0 band.1
    by (inr (inr (inr e))) some =
        let test = fraction_of (size_of word) (radix_of word) 23 e some own in
        twenty_three e test.0 (band_23 units (times * 10 ^ places) (size_of word) (size-few word fits) test.0 (near 23 e))

-- two words that are shown alike have one size and one radix
pub shown-same : (times v w places units other another : ℕ) → v < 2 ^ 32 → w < 2 ^ 32 → 1 ≤ times → Shows times v places units → Shows times w other another
    → has_own_radix v ≡ true → has_own_radix w ≡ true → places ≡ other → units ≡ another → (size_of v ≡ size_of w) × (radix_of v ≡ radix_of w)
shown-same times v w places units other another p q some one two own also same_places same_units =
    let shows_w : Shows times w places units = subst (λ (k : ℕ). Shows times w k units) (sym same_places) (subst (λ (u : ℕ). Shows times w other u) (sym same_units) two) in
    let power : 1 ≤ 10 ^ places = one-le-pow places 10 (omega arith) in
    let scale : 1 ≤ times * 10 ^ places = mul-le-mul some power in
    own-same units (times * 10 ^ places) (size_of v) (size_of w) (radix_of v) (radix_of w) scale (scale_near times v places units one) (scale_near times w places units shows_w)
    (own-of times v places units p one own) (own-of times w places units q shows_w also)
