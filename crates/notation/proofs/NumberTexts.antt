-- Texts of a sign, a decimal and a unit.
use Rattle.std.proofs.Common.{◌≡◌, ℕ, ◌/◌, ◌%◌, ◌^◌, ◌<◌, ◌==◌, ◌&&◌, ◌||◌, not, Bool, true, false, if◌then◌else◌, List, [], ◌++◌, codes, refl, ap, ◌∙◌, inl, inr}
use Rattle.std.specs.Prelude.{filter}
use Rattle.std.specs.List.{list_any, list_all}
use Rattle.std.specs.Fmt.{decimal}
use Rattle.std.proofs.Math.Bool.{or-true}
use Rattle.std.proofs.lemmas.Bool.{cases_Bool, and_parts}
use Rattle.std.proofs.lemmas.List.{append-nil}
use Rattle.std.proofs.lemmas.List.Elements.{filter-append}
use Rattle.std.proofs.lemmas.List.Folds.{list_any-append, list_all-append}
use Rattle.config_record.specs.locales.Locale.{is_digit}
use Rattle.notation.specs.Decimal.{behind_point, with_point}
use Rattle.notation.proofs.Digits.{filter-all, filter-none, any-none, apart, all_digits}
use Rattle.notation.proofs.LocaleTexts.{widened}
use Rattle.notation.proofs.DecimalTexts.{IsUnits, marked_of, digits_behind-others, behind_of}

-- a digit or a point
abbrev pub is_point : ℕ → Bool
is_point b = is_digit b || b == 46

abbrev pub is_minus : ℕ → Bool
is_minus b = b == 45

abbrev pub is_unit : ℕ → Bool
is_unit b = not (is_point b) && not (is_minus b)

digit_is_point : (x : ℕ) → is_digit x ≡ true → is_point x ≡ true
digit_is_point x e = rw e refl

pub decimal_point : (n : ℕ) → n < 2 ^ 64 → list_all is_point (decimal n) ≡ true
decimal_point n fits = widened is_digit is_point (decimal n) digit_is_point (all_digits n fits)

pub with_point_all : (places units : ℕ) → IsUnits places units → list_all is_point (with_point places units) ≡ true
with_point_all places units is =
    list_all-append is_point (decimal (units / 10 ^ places)) (behind_point places (units % 10 ^ places))
    ∙ rw (decimal_point (units / 10 ^ places) is.whole) (elim (cases_Bool (places == 0)) [
      | inl none ↦ rw none refl
      | inr some ↦
          let m = marked_of places (units % 10 ^ places) (behind_of places units is.few_places) in
          rw some (ap (λ (t : List ℕ). list_all is_point t) (digits_behind-others places (units % 10 ^ places) m) ∙ widened is_digit is_point m.others digit_is_point m.all)
    ])

abbrev pub minus_if : Bool → List ℕ
minus_if negative = if negative then codes "-" else []

pub record IsNumber (text : List ℕ) (negative : Bool) (decimal_is unit : List ℕ) : Type 0 where
  pub is : text ≡ minus_if negative ++ decimal_is ++ unit
  pub points : list_all is_point decimal_is ≡ true
  pub letters : list_all is_unit unit ≡ true

point_is_no_unit : (x : ℕ) → is_point x ≡ true → is_unit x ≡ false
point_is_no_unit x e = rw e refl

unit_is_no_point : (x : ℕ) → is_unit x ≡ true → is_point x ≡ false
unit_is_no_point x e = elim (cases_Bool (is_point x)) [
  | inl here ↦ absurd (let wrong = rw here at e in cc)
  | inr other ↦ other
]

unit_is_no_minus : (x : ℕ) → is_unit x ≡ true → is_minus x ≡ false
unit_is_no_minus x e = elim (cases_Bool (is_minus x)) [
  | inl here ↦ absurd (let both = and_parts (not (is_point x)) (not (is_minus x)) e in let wrong = rw here at both.1 in cc)
  | inr other ↦ other
]

point_is_no_minus : (x : ℕ) → is_point x ≡ true → is_minus x ≡ false
point_is_no_minus x e = apart is_point 45 refl x e

minus_point : (negative : Bool) → filter is_point (minus_if negative) ≡ []
minus_point true = refl
minus_point false = refl

minus_unit : (negative : Bool) → filter is_unit (minus_if negative) ≡ []
minus_unit true = refl
minus_unit false = refl

minus_any : (negative : Bool) → list_any is_minus (minus_if negative) ≡ negative
minus_any true = refl
minus_any false = refl

pub point_of : (text : List ℕ) (negative : Bool) (number unit : List ℕ) → IsNumber text negative number unit → filter is_point text ≡ number
point_of text negative number unit is =
    ap (filter is_point) is.is
    ∙ filter-append is_point (minus_if negative ++ number) unit
    ∙ rw (filter-append is_point (minus_if negative) number, minus_point negative, filter-all is_point number is.points, filter-none is_point unit (any-none is_unit is_point unit unit_is_no_point is.letters)) (append-nil number)

pub unit_in : (text : List ℕ) (negative : Bool) (number unit : List ℕ) → IsNumber text negative number unit → filter is_unit text ≡ unit
unit_in text negative number unit is =
    ap (filter is_unit) is.is
    ∙ filter-append is_unit (minus_if negative ++ number) unit
    ∙ rw (filter-append is_unit (minus_if negative) number, minus_unit negative, filter-none is_unit number (any-none is_point is_unit number point_is_no_unit is.points), filter-all is_unit unit is.letters) refl

or_none : (b : Bool) → (b || false || false) ≡ b
or_none true = refl
or_none false = refl

pub negative_in : (text : List ℕ) (negative : Bool) (number unit : List ℕ) → IsNumber text negative number unit → list_any is_minus text ≡ negative
negative_in text negative number unit is =
    ap (list_any is_minus) is.is
    ∙ list_any-append is_minus (minus_if negative ++ number) unit
    ∙ rw (list_any-append is_minus (minus_if negative) number, minus_any negative, any-none is_point is_minus number point_is_no_minus is.points, any-none is_unit is_minus unit unit_is_no_minus is.letters) (or_none negative)

-- a point stands in it
pub with_point_dot : (places units : ℕ) → (places == 0) ≡ false → list_any (λ x. x == 46) (with_point places units) ≡ true
with_point_dot places units some =
    list_any-append (λ x. x == 46) (decimal (units / 10 ^ places)) (behind_point places (units % 10 ^ places)) ∙ rw (some, or-true) refl
