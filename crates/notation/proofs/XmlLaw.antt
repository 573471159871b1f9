-- The text of a value determines it.
use Rattle.std.proofs.Common.{◌≡◌, ℕ, zero, suc, ◌+◌, ◌-◌, ◌/◌, ◌%◌, ◌^◌, ◌<◌, ◌≤◌, ◌==◌, nat_lt, if◌then◌else◌, Bool, true, false, ℤ, pos, negsuc, int_lt, unsigned_abs, List, [], ◌∷◌, ◌++◌, codes, take, drop, Some, refl, sym, ap, subst, ◌∙◌, inl, inr, arith, append_assoc}
use lib.Signed.{mag}
use Rattle.std.specs.List.{list_any, list_all, range_with_len}
use Rattle.std.specs.Fmt.{decimal, signed_decimal, digits}
use Rattle.std.specs.Str.Parse.{digits_value}
use Rattle.std.proofs.lemmas.Bool.{cases_Bool, and_parts, eqb-true, eq-eqb, lt-ltb, le-ltb}
use Rattle.std.proofs.lemmas.Fmt.{decimal_injective, signed_decimal_injective, digits_is_IsNumeral}
use Rattle.std.proofs.lemmas.List.{append-nil, take-append-drop}
use Rattle.std.proofs.lemmas.List.Folds.{list_any-append}
use Rattle.std.proofs.lemmas.Slice.Eq.{bytes_eq-Decides}
use Rattle.hex.specs.Hex.{encode_lower, encode_with, IsBytes}
use Rattle.notation.specs.Cut.{cut_at}
use Rattle.res_value.specs.declared.value.Value.{Value}
use Rattle.res_value.specs.declared.res_id.ResId.{ResId}
use Rattle.res_value.specs.Word.{word_text, eight_digits}
use Rattle.res_value.specs.ResId.{id_of}
use Rattle.res_value.specs.Complex.{mantissa_of, radix_of, signed_number, unit_of, unit_text, dimension_units, fraction_units, complex_text}
use Rattle.res_value.specs.ValueText.{text_among}
use Rattle.res_value.proofs.IdText.{id_of-id_text}
use Rattle.notation.specs.ColorNotation.{is_doubled, is_opaque, first_digits, doubled, hash_text}
use Rattle.notation.specs.ComplexNotation.{size_of, spare_bits, has_own_radix}
use Rattle.notation.specs.Decimal.{with_point}
use Rattle.notation.specs.XmlText.{xml_text}
use Rattle.notation.specs.Stored.{IsStored}
use Rattle.notation.proofs.Digits.{unmarked}
use Rattle.notation.proofs.LocaleTexts.{cut_at-behind, hex-same}
use Rattle.notation.proofs.DecimalTexts.{with_point-same}
use Rattle.notation.proofs.NumberTexts.{minus_if, IsNumber, point_of, unit_in, negative_in, with_point_dot, decimal_point}
use Rattle.notation.proofs.ComplexLaw.{Shows, radix-few, shown-same, same_word, is_negative}
use Rattle.notation.proofs.FloatLaw.{FloatShows, is_negative_float, float-same}
use Rattle.notation.proofs.XmlForms.{value, way_of, prefix_of, Form, form_of, told_at, dimension_at, fraction_at, units_of_float, undefined, no_value, empty, tagged, unknown, string, a_dimension, a_fraction, whole, hexadecimal, a_float, dimension, fraction, all_bits, no_bits, argb8, rgb8, argb4, rgb4}

-- ---- whole numbers

record Signed (z : ℤ) : Type 0 where
  negative : Bool
  size : ℕ
  fits : size < 2 ^ 64
  is : signed_decimal z ≡ minus_if negative ++ decimal size

-- a signed number of 32 bits
signed_of : (w : ℕ) → w < 2 ^ 32 → Signed (signed_number 32 w)
signed_of w fits = elim (cases_Bool (nat_lt w (2 ^ 31))) [
  | inl small ↦ rw small (record { negative = false; size = w; fits = omega (arith, fits); is = refl })
  | inr great ↦ rw (great, lt-ltb w (2 ^ 32) fits) (record { negative = true; size = suc (2 ^ 32 - suc w); fits = omega (arith, fits); is = refl })
]

whole_number : (w : ℕ) (t : List ℕ) (s : Signed (signed_number 32 w)) → t ≡ signed_decimal (signed_number 32 w) → IsNumber t s.negative (decimal s.size) []
whole_number w t s is = record { is = is ∙ s.is ∙ sym (append-nil (minus_if s.negative ++ decimal s.size)); points = decimal_point s.size s.fits; letters = refl }

minus_dot : (negative : Bool) → list_any (λ x. x == 46) (minus_if negative) ≡ false
minus_dot true = refl
minus_dot false = refl

dot_in : (t : List ℕ) (negative : Bool) (number : List ℕ) → IsNumber t negative number [] → list_any (λ x. x == 46) t ≡ list_any (λ x. x == 46) number
dot_in t negative number is =
    ap (list_any (λ x. x == 46)) (is.is ∙ append-nil (minus_if negative ++ number)) ∙ list_any-append (λ x. x == 46) (minus_if negative) number ∙ rw (minus_dot negative) refl

-- ---- the way of each form

abbrev way : {k w : ℕ} {t : List ℕ} → Form k w t → ℕ
way (undefined a b same) = 13
way (no_value a b same) = 3
way (empty a b same) = 4
way {k} (tagged same at) = 30000 + k
way (unknown same) = 12
way (string k same) = 9
way (a_dimension k spare same) = 11
way (a_fraction k spare same) = 10
way (whole k same) = 0
way (hexadecimal k same) = 2
way (a_float places units k some is number) = 1
way (dimension places units unit k spare own is at number) = 5
way (fraction places units unit k spare own is at number) = 6
way (all_bits k w same) = 7
way (no_bits k w same) = 8
way (argb8 k same) = 109
way (rgb8 k opaque same) = 107
way (argb4 k twice same) = 105
way (rgb4 k twice opaque same) = 104

-- those of all kinds that have a number are one
abbrev class_of : ℕ → ℕ
class_of n = if nat_lt n 30000 then n else 30000

abbrev class : {k w : ℕ} {t : List ℕ} → Form k w t → ℕ
class (undefined a b same) = 13
class (no_value a b same) = 3
class (empty a b same) = 4
class (tagged same at) = 30000
class (unknown same) = 12
class (string k same) = 9
class (a_dimension k spare same) = 11
class (a_fraction k spare same) = 10
class (whole k same) = 0
class (hexadecimal k same) = 2
class (a_float places units k some is number) = 1
class (dimension places units unit k spare own is at number) = 5
class (fraction places units unit k spare own is at number) = 6
class (all_bits k w same) = 7
class (no_bits k w same) = 8
class (argb8 k same) = 109
class (rgb8 k opaque same) = 107
class (argb4 k twice same) = 105
class (rgb4 k twice opaque same) = 104

class_is : (k w : ℕ) (t : List ℕ) (f : Form k w t) → class_of (way f) ≡ class f
class_is k w t (undefined a b same) = refl
class_is k w t (no_value a b same) = refl
class_is k w t (empty a b same) = refl
class_is k w t (tagged same at) = rw (le-ltb (30000 + k) 30000 (omega arith)) refl
class_is k w t (unknown same) = refl
class_is k w t (string is same) = refl
class_is k w t (a_dimension is spare same) = refl
class_is k w t (a_fraction is spare same) = refl
class_is k w t (whole is same) = refl
class_is k w t (hexadecimal is same) = refl
class_is k w t (a_float places units is some shown number) = refl
class_is k w t (dimension places units unit is spare own shown at number) = refl
class_is k w t (fraction places units unit is spare own shown at number) = refl
class_is k w t (all_bits is all same) = refl
class_is k w t (no_bits is none same) = refl
class_is k w t (argb8 is same) = refl
class_is k w t (rgb8 is opaque same) = refl
class_is k w t (argb4 is twice same) = refl
class_is k w t (rgb4 is twice opaque same) = refl

told_way : (k w : ℕ) (t : List ℕ) → w < 2 ^ 32 → (f : Form k w t) → way_of t ≡ way f
unfolding eight_digits encode_with
told_way k w t fits (undefined a b same) = rw same refl
told_way k w t fits (no_value a b same) = rw same refl
told_way k w t fits (empty a b same) = rw same refl
told_way k w t fits (tagged same at) = at
told_way k w t fits (unknown same) = rw same refl
told_way k w t fits (string is same) = rw same refl
told_way k w t fits (a_dimension is spare same) = rw same refl
told_way k w t fits (a_fraction is spare same) = rw same refl
told_way k w t fits (whole is same) =
    let s = signed_of w fits in
    let number = whole_number w t s same in
    rw (unit_in t s.negative (decimal s.size) [] number, dot_in t s.negative (decimal s.size) number, unmarked 46 s.size refl s.fits) refl
told_way k w t fits (hexadecimal is same) = rw same refl
told_way k w t fits (a_float places units is some shown number) =
    let negative = is_negative_float w in
    rw (unit_in t negative (with_point places units) [] number, dot_in t negative (with_point places units) number, with_point_dot places units some) refl
told_way k w t fits (dimension places units unit is spare own shown at number) = rw (unit_in t (is_negative w) (with_point places units) unit number) ((dimension_at (unit_of w) unit at).way_is t)
told_way k w t fits (fraction places units unit is spare own shown at number) = rw (unit_in t (is_negative w) (with_point places units) unit number) ((fraction_at (unit_of w) unit at).way_is t)
told_way k w t fits (all_bits is all same) = rw same refl
told_way k w t fits (no_bits is none same) = rw same refl
told_way k w t fits (argb8 is same) = rw same refl
told_way k w t fits (rgb8 is opaque same) = rw same refl
told_way k w t fits (argb4 is twice same) = rw same refl
told_way k w t fits (rgb4 is twice opaque same) = rw same refl

-- ---- words that are told alike

eight-same : (v w : ℕ) → v < 2 ^ 32 → w < 2 ^ 32 → eight_digits v ≡ eight_digits w → v ≡ w
unfolding word_text
eight-same v w p q same =
    let one : ResId = record { 0 = v } in
    let two : ResId = record { 0 = w } in
    let ids : Some one ≡ Some two = sym (id_of-id_text one p) ∙ ap (λ (d : List ℕ). id_of (codes "0x" ++ d)) same ∙ id_of-id_text two q in
    let same_id : one ≡ two = cc in
    ap (λ (id : ResId). id.0) same_id

pub append-same : (front xs ys : List ℕ) → front ++ xs ≡ front ++ ys → xs ≡ ys
append-same [] xs ys same = same
append-same (x ∷ front) xs ys same = append-same front xs ys cc

one_byte : (k : ℕ) → k < 2 ^ 8 → IsBytes (k ∷ [])
one_byte k fits zero = fits
one_byte k fits (suc i) = omega arith

unknown-same : (j k v w : ℕ) → j < 2 ^ 8 → k < 2 ^ 8 → v < 2 ^ 32 → w < 2 ^ 32 → text_among [] (value j v) ≡ text_among [] (value k w) → (j ≡ k) × (v ≡ w)
unfolding encode_with
unknown-same j k v w p q r s same =
    let kinds : encode_lower (j ∷ []) ≡ encode_lower (k ∷ []) = cc in
    let words : eight_digits v ≡ eight_digits w = cc in
    let bytes = hex-same (j ∷ []) (k ∷ []) (one_byte j p) (one_byte k q) kinds in
    (cc, eight-same v w r s words)

-- ---- exact dimensions and fractions

pub list_all-range : (p : ℕ → Bool) (a n i : ℕ) → list_all p (range_with_len a n) ≡ true → i < n → p (a + i) ≡ true
list_all-range p a zero i all within = absurd (omega (arith, within))
list_all-range p a (suc n) zero all within = let both = and_parts (p a) (list_all p (range_with_len (a + 1) n)) all in let same : a + 0 ≡ a = omega arith in rw same both.0
list_all-range p a (suc n) (suc i) all within =
    let both = and_parts (p a) (list_all p (range_with_len (a + 1) n)) all in
    let same : a + suc i ≡ a + 1 + i = omega arith in
    rw same (list_all-range p (a + 1) n i both.1 (omega (arith, within)))

-- a unit is told by its text
unfoldable is_dimension_told : ℕ → Bool
is_dimension_told unit = told_at dimension_units 0 (unit_text dimension_units unit) == unit

unfoldable is_fraction_told : ℕ → Bool
is_fraction_told unit = told_at fraction_units 0 (unit_text fraction_units unit) == unit

dimensions_told : list_all is_dimension_told (range_with_len 0 16) ≡ true
unfolding digits is_dimension_told
dimensions_told = refl

fractions_told : list_all is_fraction_told (range_with_len 0 16) ≡ true
unfolding digits is_fraction_told
fractions_told = refl

told_dimension : (u : ℕ) → u < 16 → told_at dimension_units 0 (unit_text dimension_units u) ≡ u
unfolding is_dimension_told
told_dimension u within = eqb-true (told_at dimension_units 0 (unit_text dimension_units u)) u (let same : 0 + u ≡ u = omega arith in subst (λ (n : ℕ). is_dimension_told n ≡ true) same (list_all-range is_dimension_told 0 16 u dimensions_told within))

told_fraction : (u : ℕ) → u < 16 → told_at fraction_units 0 (unit_text fraction_units u) ≡ u
unfolding is_fraction_told
told_fraction u within = eqb-true (told_at fraction_units 0 (unit_text fraction_units u)) u (let same : 0 + u ≡ u = omega arith in subst (λ (n : ℕ). is_fraction_told n ≡ true) same (list_all-range is_fraction_told 0 16 u fractions_told within))

few_24 : (n : ℕ) → n < 2 ^ 24 → mag (signed_number 24 n) < 2 ^ 63
few_24 n fits = elim (cases_Bool (nat_lt n (2 ^ 23))) [
  | inl small ↦ rw small (omega (arith, fits))
  | inr great ↦ rw (great, lt-ltb n (2 ^ 24) fits) (omega (arith, fits))
]

mantissa_few : (w : ℕ) → w < 2 ^ 32 → mag (mantissa_of w) < 2 ^ 63
mantissa_few w fits = few_24 (w / 2 ^ 8) (omega (arith, fits))

no_slash : (z : ℤ) → mag z < 2 ^ 63 → list_any (λ x. x == 47) (signed_decimal z) ≡ false
no_slash (pos n) few = unmarked 47 n refl (omega (arith, few))
no_slash (negsuc n) few = unmarked 47 (suc n) refl (omega (arith, few))

abbrev behind_slash : ℕ → List ℕ → List ℕ
behind_slash radix unit = codes "2^" ++ (decimal radix ++ (codes " " ++ unit))

complex_cut : (units : List (List ℕ)) (w : ℕ) → w < 2 ^ 32 → cut_at 47 (complex_text units w) ≡ (signed_decimal (mantissa_of w), Some (behind_slash (radix_of w) (unit_text units (unit_of w))))
unfolding complex_text
complex_cut units w fits =
    let mantissa = signed_decimal (mantissa_of w) in
    let radix = decimal (radix_of w) in
    let unit = unit_text units (unit_of w) in
    ap (cut_at 47) (append_assoc (mantissa ++ codes "/2^" ++ radix) (codes " ") unit ∙ append_assoc (mantissa ++ codes "/2^") radix (codes " " ++ unit) ∙ append_assoc mantissa (codes "/2^") (radix ++ (codes " " ++ unit)))
    ∙ cut_at-behind 47 mantissa (behind_slash (radix_of w) unit) (no_slash (mantissa_of w) (mantissa_few w fits))

radix_small : (w : ℕ) → radix_of w < 2 ^ 64
radix_small w = omega (arith, radix-few (w / 2 ^ 4 % 2 ^ 2))

record SameParts (v w : ℕ) (one other : List ℕ) : Type 0 where
  mantissa : mantissa_of v ≡ mantissa_of w
  radix : radix_of v ≡ radix_of w
  unit : one ≡ other

complex-parts : (units : List (List ℕ)) (v w : ℕ) → v < 2 ^ 32 → w < 2 ^ 32 → complex_text units v ≡ complex_text units w → SameParts v w (unit_text units (unit_of v)) (unit_text units (unit_of w))
complex-parts units v w p q same =
    let one = unit_text units (unit_of v) in
    let other = unit_text units (unit_of w) in
    let cuts = sym (complex_cut units v p) ∙ ap (cut_at 47) same ∙ complex_cut units w q in
    let mantissas : signed_decimal (mantissa_of v) ≡ signed_decimal (mantissa_of w) = (λ i. (cuts i).0) in
    let behinds : Some (behind_slash (radix_of v) one) ≡ Some (behind_slash (radix_of w) other) = (λ i. (cuts i).1) in
    let ends : decimal (radix_of v) ++ (codes " " ++ one) ≡ decimal (radix_of w) ++ (codes " " ++ other) = cc in
    let radix_cuts =
    sym (cut_at-behind 32 (decimal (radix_of v)) one (unmarked 32 (radix_of v) refl (radix_small v)))
    ∙ ap (cut_at 32) ends
    ∙ cut_at-behind 32 (decimal (radix_of w)) other (unmarked 32 (radix_of w) refl (radix_small w)) in
    let radixes : decimal (radix_of v) ≡ decimal (radix_of w) = (λ i. (radix_cuts i).0) in
    let unit_texts : Some one ≡ Some other = (λ i. (radix_cuts i).1) in
    let units_are : one ≡ other = cc in
    record {
      mantissa = signed_decimal_injective (mantissa_of v) (mantissa_of w) (mantissa_few v p) (mantissa_few w q) mantissas;
      radix = decimal_injective (radix_of v) (radix_of w) (radix_small v) (radix_small w) radixes;
      unit = units_are;
    }

complex-same : (v w : ℕ) (one other : List ℕ) → v < 2 ^ 32 → w < 2 ^ 32 → SameParts v w one other → unit_of v ≡ unit_of w → spare_bits v ≡ 0 → spare_bits w ≡ 0 → v ≡ w
complex-same v w one other p q is units spare also =
    same_word v w p q (ap (λ (z : ℤ). int_lt z (pos 0)) is.mantissa) (ap unsigned_abs is.mantissa) is.radix units (spare ∙ sym also)

exact_dimension-same : (v w : ℕ) → v < 2 ^ 32 → w < 2 ^ 32 → spare_bits v ≡ 0 → spare_bits w ≡ 0 → complex_text dimension_units v ≡ complex_text dimension_units w → v ≡ w
exact_dimension-same v w p q spare also same =
    let parts = complex-parts dimension_units v w p q same in
    complex-same v w (unit_text dimension_units (unit_of v)) (unit_text dimension_units (unit_of w)) p q parts
    (sym (told_dimension (unit_of v) (omega arith)) ∙ ap (told_at dimension_units 0) parts.unit ∙ told_dimension (unit_of w) (omega arith))
    spare also

exact_fraction-same : (v w : ℕ) → v < 2 ^ 32 → w < 2 ^ 32 → spare_bits v ≡ 0 → spare_bits w ≡ 0 → complex_text fraction_units v ≡ complex_text fraction_units w → v ≡ w
exact_fraction-same v w p q spare also same =
    let parts = complex-parts fraction_units v w p q same in
    complex-same v w (unit_text fraction_units (unit_of v)) (unit_text fraction_units (unit_of w)) p q parts
    (sym (told_fraction (unit_of v) (omega arith)) ∙ ap (told_at fraction_units 0) parts.unit ∙ told_fraction (unit_of w) (omega arith))
    spare also

-- ---- numbers

few_32 : (n : ℕ) → n < 2 ^ 32 → mag (signed_number 32 n) < 2 ^ 63
few_32 n fits = elim (cases_Bool (nat_lt n (2 ^ 31))) [
  | inl small ↦ rw small (omega (arith, fits))
  | inr great ↦ rw (great, lt-ltb n (2 ^ 32) fits) (omega (arith, fits))
]

signed_number-same : (v w : ℕ) → v < 2 ^ 32 → w < 2 ^ 32 → signed_number 32 v ≡ signed_number 32 w → v ≡ w
signed_number-same v w p q same = elim (cases_Bool (nat_lt v (2 ^ 31))) [
  | inl small ↦ elim (cases_Bool (nat_lt w (2 ^ 31))) [
    | inl also ↦ (let numbers = rw (small, also) at same in cc)
    | inr great ↦ absurd (let numbers = rw (small, great, lt-ltb w (2 ^ 32) q) at same in cc)
  ]
  | inr great ↦ elim (cases_Bool (nat_lt w (2 ^ 31))) [
    | inl small ↦ absurd (let numbers = rw (great, small, lt-ltb v (2 ^ 32) p) at same in cc)
    | inr also ↦ (
        let numbers = rw (great, also, lt-ltb v (2 ^ 32) p, lt-ltb w (2 ^ 32) q) at same in
        let sizes : 2 ^ 32 - suc v ≡ 2 ^ 32 - suc w = cc in
        omega (arith, p, q, sizes)
        )
  ]
]

whole-same : (v w : ℕ) → v < 2 ^ 32 → w < 2 ^ 32 → signed_decimal (signed_number 32 v) ≡ signed_decimal (signed_number 32 w) → v ≡ w
whole-same v w p q same = signed_number-same v w p q (signed_decimal_injective (signed_number 32 v) (signed_number 32 w) (few_32 v p) (few_32 w q) same)

hexadecimal-same : (v w : ℕ) → v < 2 ^ 32 → w < 2 ^ 32 → digits 16 false v ≡ digits 16 false w → v ≡ w
hexadecimal-same v w p q same =
    sym (digits_is_IsNumeral 16 false (omega arith) (omega arith) v (omega (arith, p))).1 ∙ ap (digits_value 16) same ∙ (digits_is_IsNumeral 16 false (omega arith) (omega arith) w (omega (arith, q))).1

shown_float-same : (v w places units other another : ℕ) (t : List ℕ) → v < 2 ^ 32 → w < 2 ^ 32 → FloatShows v places units → FloatShows w other another
    → IsNumber t (is_negative_float v) (with_point places units) [] → IsNumber t (is_negative_float w) (with_point other another) [] → v ≡ w
shown_float-same v w places units other another t p q one two number also =
    let decimals = sym (point_of t (is_negative_float v) (with_point places units) [] number) ∙ point_of t (is_negative_float w) (with_point other another) [] also in
    let parts = with_point-same places units other another (units_of_float v places units one) (units_of_float w other another two) decimals in
    let shows_w : FloatShows w places units = subst (λ (k : ℕ). FloatShows w k units) (sym parts.0) (subst (λ (u : ℕ). FloatShows w other u) (sym parts.1) two) in
    float-same v w places units p q (sym (negative_in t (is_negative_float v) (with_point places units) [] number) ∙ negative_in t (is_negative_float w) (with_point other another) [] also) one shows_w

record SameShown (v w : ℕ) (unit name : List ℕ) : Type 0 where
  sign : is_negative v ≡ is_negative w
  size : size_of v ≡ size_of w
  radix : radix_of v ≡ radix_of w
  unit_is : unit ≡ name

shown_number-same : (times v w places units other another : ℕ) (unit name t : List ℕ) → 1 ≤ times → v < 2 ^ 32 → w < 2 ^ 32 → has_own_radix v ≡ true → has_own_radix w ≡ true
    → Shows times v places units → Shows times w other another
    → IsNumber t (is_negative v) (with_point places units) unit → IsNumber t (is_negative w) (with_point other another) name → SameShown v w unit name
shown_number-same times v w places units other another unit name t some p q own owns one two number also =
    let decimals = sym (point_of t (is_negative v) (with_point places units) unit number) ∙ point_of t (is_negative w) (with_point other another) name also in
    let parts = with_point-same places units other another one.is_units two.is_units decimals in
    let same = shown-same times v w places units other another p q some one two own owns parts.0 parts.1 in
    record {
      sign = sym (negative_in t (is_negative v) (with_point places units) unit number) ∙ negative_in t (is_negative w) (with_point other another) name also;
      size = same.0;
      radix = same.1;
      unit_is = sym (unit_in t (is_negative v) (with_point places units) unit number) ∙ unit_in t (is_negative w) (with_point other another) name also;
    }

-- ---- colours

digits-same : (v w : ℕ) → v < 2 ^ 32 → w < 2 ^ 32 → hash_text (eight_digits v) ≡ hash_text (eight_digits w) → v ≡ w
digits-same v w p q same = eight-same v w p q (append-same (codes "#") (eight_digits v) (eight_digits w) same)

opaque_is : (d : List ℕ) → is_opaque d ≡ true → d ≡ codes "ff" ++ drop 2 d
opaque_is d test = sym (take-append-drop 2 d) ∙ ap (λ (t : List ℕ). t ++ drop 2 d) ((bytes_eq-Decides (take 2 d) (codes "ff")).0 test)

doubled_is : (d : List ℕ) → is_doubled d ≡ true → doubled (first_digits d) ≡ d
doubled_is d test = (bytes_eq-Decides (doubled (first_digits d)) d).0 test

opaque-same : (d e : List ℕ) → is_opaque d ≡ true → is_opaque e ≡ true → hash_text (drop 2 d) ≡ hash_text (drop 2 e) → d ≡ e
opaque-same d e p q same = opaque_is d p ∙ ap (λ (t : List ℕ). codes "ff" ++ t) (append-same (codes "#") (drop 2 d) (drop 2 e) same) ∙ sym (opaque_is e q)

firsts-same : (d e : List ℕ) → is_doubled d ≡ true → is_doubled e ≡ true → first_digits d ≡ first_digits e → d ≡ e
firsts-same d e p q same = sym (doubled_is d p) ∙ ap doubled same ∙ doubled_is e q

short-same : (d e : List ℕ) → is_doubled d ≡ true → is_doubled e ≡ true → is_opaque d ≡ true → is_opaque e ≡ true → hash_text (first_digits (drop 2 d)) ≡ hash_text (first_digits (drop 2 e)) → d ≡ e
short-same d e p q opaque also same =
    let behind = append-same (codes "#") (first_digits (drop 2 d)) (first_digits (drop 2 e)) same in
    firsts-same d e p q (ap first_digits (opaque_is d opaque) ∙ ap (λ (t : List ℕ). 102 ∷ t) behind ∙ sym (ap first_digits (opaque_is e also)))

-- ---- the law

alike : (j k v w n : ℕ) → j ≡ n → k ≡ n → v ≡ w → value j v ≡ value k w
alike j k v w n one other words = let kinds : j ≡ k = one ∙ sym other in cc

tagged-same : (j k v w : ℕ) (t : List ℕ) → v < 2 ^ 32 → w < 2 ^ 32 → t ≡ prefix_of j ++ eight_digits v → t ≡ prefix_of k ++ eight_digits w → j ≡ k → v ≡ w
tagged-same j k v w t p q one other kinds =
    let two : t ≡ prefix_of j ++ eight_digits w = subst (λ (n : ℕ). t ≡ prefix_of n ++ eight_digits w) (sym kinds) other in
    eight-same v w p q (append-same (prefix_of j) (eight_digits v) (eight_digits w) (sym one ∙ two))

-- one text is told in one way
one_class : (j k v w : ℕ) (t : List ℕ) → v < 2 ^ 32 → w < 2 ^ 32 → (one : Form j v t) (other : Form k w t) → (class one == class other) ≡ true
one_class j k v w t p q one other =
    eq-eqb (class one) (class other)
    (sym (class_is j v t one) ∙ ap class_of (sym (told_way j v t p one) ∙ told_way k w t q other) ∙ class_is k w t other)

not_true : false ≡ true → ⊥
not_true same = cc

forms-same : (j k v w : ℕ) (t : List ℕ) → j < 2 ^ 8 → k < 2 ^ 8 → v < 2 ^ 32 → w < 2 ^ 32 → Form j v t → Form k w t → value j v ≡ value k w
forms-same j k v w t a b p q (undefined kind word same) (undefined other also equal) = alike j k v w 0 kind other (word ∙ sym also)
forms-same j k v w t a b p q (no_value kind word same) (no_value other also equal) = alike j k v w 1 kind other (word ∙ sym also)
forms-same j k v w t a b p q (empty kind word same) (empty other also equal) = alike j k v w 0 kind other (word ∙ sym also)
forms-same j k v w t a b p q (tagged same at) (tagged equal there) =
    let ways = sym at ∙ there in
    let kinds : j ≡ k = omega (arith, ways) in
    alike j k v w k kinds refl (tagged-same j k v w t p q same equal kinds)
forms-same j k v w t a b p q (unknown same) (unknown equal) = let is = unknown-same j k v w a b p q (sym same ∙ equal) in alike j k v w k is.0 refl is.1
forms-same j k v w t a b p q (string is same) (string also equal) =
    alike j k v w 3 is also (decimal_injective v w (omega (arith, p)) (omega (arith, q)) (append-same (codes "string ") (decimal v) (decimal w) (sym same ∙ equal)))
forms-same j k v w t a b p q (a_dimension is spare same) (a_dimension also spares equal) =
    alike j k v w 5 is also (exact_dimension-same v w p q spare spares (append-same (codes "dimension ") (complex_text dimension_units v) (complex_text dimension_units w) (sym same ∙ equal)))
forms-same j k v w t a b p q (a_fraction is spare same) (a_fraction also spares equal) =
    alike j k v w 6 is also (exact_fraction-same v w p q spare spares (append-same (codes "fraction ") (complex_text fraction_units v) (complex_text fraction_units w) (sym same ∙ equal)))
forms-same j k v w t a b p q (whole is same) (whole also equal) = alike j k v w 16 is also (whole-same v w p q (sym same ∙ equal))
forms-same j k v w t a b p q (hexadecimal is same) (hexadecimal also equal) =
    alike j k v w 17 is also (hexadecimal-same v w p q (append-same (codes "0x") (digits 16 false v) (digits 16 false w) (sym same ∙ equal)))
forms-same j k v w t a b p q (a_float places units is some shown number) (a_float other another also more shows_w numbers) =
    alike j k v w 4 is also (shown_float-same v w places units other another t p q shown shows_w number numbers)
forms-same j k v w t a b p q (dimension places units unit is spare own shown at number) (dimension other another name also spares owns shows_w there numbers) =
    let same = shown_number-same 1 v w places units other another unit name t (omega arith) p q own owns shown shows_w number numbers in
    let unit_are : unit_of v ≡ unit_of w = sym (dimension_at (unit_of v) unit at).place_is ∙ ap (told_at dimension_units 0) same.unit_is ∙ (dimension_at (unit_of w) name there).place_is in
    alike j k v w 5 is also (same_word v w p q same.sign same.size same.radix unit_are (spare ∙ sym spares))
forms-same j k v w t a b p q (fraction places units unit is spare own shown at number) (fraction other another name also spares owns shows_w there numbers) =
    let same = shown_number-same 100 v w places units other another unit name t (omega arith) p q own owns shown shows_w number numbers in
    let unit_are : unit_of v ≡ unit_of w = sym (fraction_at (unit_of v) unit at).place_is ∙ ap (told_at fraction_units 0) same.unit_is ∙ (fraction_at (unit_of w) name there).place_is in
    alike j k v w 6 is also (same_word v w p q same.sign same.size same.radix unit_are (spare ∙ sym spares))
forms-same j k v w t a b p q (all_bits is all same) (all_bits also every equal) = alike j k v w 18 is also (all ∙ sym every)
forms-same j k v w t a b p q (no_bits is none same) (no_bits also nones equal) = alike j k v w 18 is also (none ∙ sym nones)
forms-same j k v w t a b p q (argb8 is same) (argb8 also equal) = alike j k v w 28 is also (digits-same v w p q (sym same ∙ equal))
forms-same j k v w t a b p q (rgb8 is opaque same) (rgb8 also opaques equal) =
    alike j k v w 29 is also (eight-same v w p q (opaque-same (eight_digits v) (eight_digits w) opaque opaques (sym same ∙ equal)))
forms-same j k v w t a b p q (argb4 is twice same) (argb4 also twices equal) =
    alike j k v w 30 is also
    (eight-same v w p q (firsts-same (eight_digits v) (eight_digits w) twice twices (append-same (codes "#") (first_digits (eight_digits v)) (first_digits (eight_digits w)) (sym same ∙ equal))))
forms-same j k v w t a b p q (rgb4 is twice opaque same) (rgb4 also twices opaques equal) =
    alike j k v w 31 is also (eight-same v w p q (short-same (eight_digits v) (eight_digits w) twice twices opaque opaques (sym same ∙ equal)))
forms-same j k v w t a b p q one other = absurd (not_true (one_class j k v w t p q one other))

pub told : (one other : Value) → IsStored one → IsStored other → xml_text one ≡ xml_text other → one ≡ other
told one other is also same =
    forms-same one.kind other.kind one.word other.word (xml_text other) is.kind also.kind is.word also.word
    (subst (λ (t : List ℕ). Form one.kind one.word t) same (form_of one.kind one.word is.word)) (form_of other.kind other.word also.word)
