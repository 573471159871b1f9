-- Decimals with a point, as texts.
use Rattle.std.proofs.Common.{◌≡◌, ℕ, zero, suc, ◌+◌, ◌*◌, ◌/◌, ◌%◌, ◌^◌, ◌<◌, ◌≤◌, ◌==◌, true, false, if◌then◌else◌, List, [], ◌∷◌, ◌++◌, codes, length, drop, refl, sym, ap, subst, ◌∙◌, inl, inr, arith}
use Rattle.std.specs.List.{list_any, list_all}
use Rattle.std.specs.Fmt.{decimal}
use Rattle.std.proofs.Math.Nat.{pow-suc, one-le-pow, pow-le-pow_right}
use Rattle.std.proofs.lemmas.Bool.{cases_Bool, eqb-true}
use Rattle.std.proofs.lemmas.Fmt.{decimal_digit, decimal_step, decimal_injective}
use Rattle.std.proofs.lemmas.List.{append-nil, length-append}
use Rattle.std.proofs.lemmas.List.Elements.{filter-append}
use Rattle.std.proofs.lemmas.List.Folds.{list_all-append}
use Rattle.config_record.specs.locales.Locale.{is_digit}
use Rattle.notation.specs.Decimal.{digits_behind, behind_point, with_point}
use Rattle.notation.proofs.Digits.{is_no_digit, letters_of, letters_of-decimal, filter-none, any-none, digit-is, no_mark, unmarked}
use Rattle.notation.proofs.Pieces.{split_at, split_at-append, split_at-whole}

-- the digits of a number with a 1 before so many others
pub record Marked (places number : ℕ) : Type 0 where
  pub others : List ℕ
  pub is : decimal (10 ^ places + number) ≡ 49 ∷ others
  pub long : length others ≡ places
  pub all : list_all is_digit others ≡ true

marked : (places number : ℕ) → number < 10 ^ places → 10 ^ places + number < 2 ^ 64 → Marked places number
marked zero number within fits =
    let none : number ≡ 0 = omega (arith, within) in
    record { others = []; is = rw none (decimal_digit 1 (omega arith)); long = refl; all = refl }
marked (suc k) number within fits =
    let power = pow-suc 10 k in
    let some : 1 ≤ 10 ^ k = one-le-pow k 10 (omega arith) in
    let front : (10 ^ suc k + number) / 10 ≡ 10 ^ k + number / 10 = omega (arith, power) in
    let last : (10 ^ suc k + number) % 10 ≡ number % 10 = omega (arith, power) in
    let before = marked k (number / 10) (omega (arith, power, within)) (omega (arith, power, fits)) in
    record {
      others = before.others ++ (48 + number % 10) ∷ [];
      is =
          decimal_step (10 ^ suc k + number) (omega (arith, power, some)) fits
          ∙ ap (λ (n : ℕ). decimal n ++ (48 + (10 ^ suc k + number) % 10) ∷ []) front
          ∙ ap (λ (d : ℕ). decimal (10 ^ k + number / 10) ++ (48 + d) ∷ []) last
          ∙ ap (λ (t : List ℕ). t ++ (48 + number % 10) ∷ []) before.is;
      long = omega (arith, length-append before.others ((48 + number % 10) ∷ []), before.long);
      all = list_all-append is_digit before.others ((48 + number % 10) ∷ []) ∙ rw (before.all, digit-is (number % 10) (omega arith)) refl;
    }

-- what stands behind a point
pub record IsBehind (places number : ℕ) : Type 0 where
  pub few : places ≤ 18
  pub within : number < 10 ^ places

fits_behind : (places number : ℕ) → IsBehind places number → 10 ^ places + number < 2 ^ 64
fits_behind places number is =
    let most : 10 ^ places ≤ 10 ^ 18 = pow-le-pow_right (omega arith) is.few in omega (arith, most, is.within)

pub marked_of : (places number : ℕ) → IsBehind places number → Marked places number
marked_of places number is = marked places number is.within (fits_behind places number is)

pub digits_behind-others : (places number : ℕ) (m : Marked places number) → digits_behind places number ≡ m.others
digits_behind-others places number m = ap (drop 1) m.is

digits_behind-same : (places number other another : ℕ) → IsBehind places number → IsBehind other another → digits_behind places number ≡ digits_behind other another → (places ≡ other) × (number ≡ another)
digits_behind-same places number other another p q same =
    let one = marked_of places number p in
    let two = marked_of other another q in
    let others = sym (digits_behind-others places number one) ∙ same ∙ digits_behind-others other another two in
    let places_are : places ≡ other = omega (arith, one.long, two.long, ap (λ (t : List ℕ). length t) others) in
    let texts : decimal (10 ^ places + number) ≡ decimal (10 ^ other + another) = one.is ∙ ap (λ (t : List ℕ). 49 ∷ t) others ∙ sym two.is in
    let numbers = decimal_injective (10 ^ places + number) (10 ^ other + another) (fits_behind places number p) (fits_behind other another q) texts in
    let powers : 10 ^ places ≡ 10 ^ other = ap (λ (k : ℕ). 10 ^ k) places_are in
    (places_are, omega (arith, numbers, powers))

-- ---- with a point

-- units that a decimal has
pub record IsUnits (places units : ℕ) : Type 0 where
  pub few_places : places ≤ 18
  pub whole : units / 10 ^ places < 2 ^ 64

pub behind_of : (places units : ℕ) → places ≤ 18 → IsBehind places (units % 10 ^ places)
behind_of places units few = let some : 1 ≤ 10 ^ places = one-le-pow places 10 (omega arith) in record { few = few; within = omega (arith, some) }

pieces_behind : ℕ → ℕ → List (List ℕ)
pieces_behind places number = if places == 0 then [] else digits_behind places number ∷ []

no_dot_behind : (places number : ℕ) → IsBehind places number → list_any (λ x. x == 46) (digits_behind places number) ≡ false
no_dot_behind places number is =
    let m = marked_of places number is in
    ap (λ (t : List ℕ). list_any (λ x. x == 46) t) (digits_behind-others places number m) ∙ no_mark is_digit 46 m.others refl m.all

with_point-cut : (places units : ℕ) → IsUnits places units → split_at 46 (with_point places units) ≡ decimal (units / 10 ^ places) ∷ pieces_behind places (units % 10 ^ places)
unfolding pieces_behind
with_point-cut places units is =
    let front = decimal (units / 10 ^ places) in
    let whole : split_at 46 front ≡ front ∷ [] = split_at-whole 46 front (unmarked 46 (units / 10 ^ places) refl is.whole) in
    elim (cases_Bool (places == 0)) [
      | inl none ↦ rw none (ap (split_at 46) (append-nil front) ∙ whole)
      | inr some ↦
          let digits = digits_behind places (units % 10 ^ places) in
          rw some (split_at-append 46 front digits ∙ rw (whole, split_at-whole 46 digits (no_dot_behind places (units % 10 ^ places) (behind_of places units is.few_places))) refl)
    ]

pieces_behind-same : (places number other another : ℕ) → IsBehind places number → IsBehind other another → pieces_behind places number ≡ pieces_behind other another → (places ≡ other) × (number ≡ another)
unfolding pieces_behind
pieces_behind-same places number other another p q same = elim (cases_Bool (places == 0)) [
  | inl none ↦ elim (cases_Bool (other == 0)) [
    | inl also ↦ (
        let one = eqb-true places 0 none in
        let two = eqb-true other 0 also in
        let first : number < 10 ^ 0 = rw one at p.within in
        let second : another < 10 ^ 0 = rw two at q.within in
        (one ∙ sym two, omega (arith, first, second))
        )
    | inr some ↦ absurd (let differ = rw (none, some) at same in cc)
  ]
  | inr some ↦ elim (cases_Bool (other == 0)) [
    | inl none ↦ absurd (let differ = rw (some, none) at same in cc)
    | inr also ↦ (
        let digits = rw (some, also) at same in
        let texts : digits_behind places number ≡ digits_behind other another = cc in
        digits_behind-same places number other another p q texts
        )
  ]
]

same_units : (power u v : ℕ) → 1 ≤ power → u / power ≡ v / power → u % power ≡ v % power → u ≡ v
same_units power u v some wholes behinds = omega (arith, some, ap (λ (q : ℕ). power * q) wholes, behinds)

-- the text of a decimal determines its digits
pub with_point-same : (places units other another : ℕ) → IsUnits places units → IsUnits other another → with_point places units ≡ with_point other another → (places ≡ other) × (units ≡ another)
with_point-same places units other another p q same =
    let cuts = sym (with_point-cut places units p) ∙ ap (split_at 46) same ∙ with_point-cut other another q in
    let fronts : decimal (units / 10 ^ places) ≡ decimal (another / 10 ^ other) = cc in
    let behinds : pieces_behind places (units % 10 ^ places) ≡ pieces_behind other (another % 10 ^ other) = cc in
    let wholes = decimal_injective (units / 10 ^ places) (another / 10 ^ other) p.whole q.whole fronts in
    let digits = pieces_behind-same places (units % 10 ^ places) other (another % 10 ^ other) (behind_of places units p.few_places) (behind_of other another q.few_places) behinds in
    let some : 1 ≤ 10 ^ places = one-le-pow places 10 (omega arith) in
    let P : ℕ → Type 0 = λ k. (units / 10 ^ places ≡ another / 10 ^ k) × (units % 10 ^ places ≡ another % 10 ^ k) in
    let parts = subst P (sym digits.0) (wholes, digits.1) in
    (digits.0, same_units (10 ^ places) units another some parts.0 parts.1)

pub dot_for : ℕ → List ℕ
dot_for places = if places == 0 then [] else codes "."

letters_behind : (places number : ℕ) → IsBehind places number → letters_of (behind_point places number) ≡ dot_for places
unfolding dot_for
letters_behind places number is = elim (cases_Bool (places == 0)) [
  | inl none ↦ rw none refl
  | inr some ↦
      let m = marked_of places number is in
      let none : letters_of (digits_behind places number) ≡ [] =
      ap letters_of (digits_behind-others places number m) ∙ filter-none is_no_digit m.others (any-none is_digit is_no_digit m.others (λ x digit. rw digit refl) m.all) in
      rw some (ap (λ (t : List ℕ). 46 ∷ t) none)
]

pub letters_of-with_point : (places units : ℕ) → IsUnits places units → letters_of (with_point places units) ≡ dot_for places
letters_of-with_point places units is =
    filter-append is_no_digit (decimal (units / 10 ^ places)) (behind_point places (units % 10 ^ places))
    ∙ rw (letters_of-decimal (units / 10 ^ places) is.whole) (letters_behind places (units % 10 ^ places) (behind_of places units is.few_places))
