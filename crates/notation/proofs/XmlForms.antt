-- The texts of values, by their forms.
use Rattle.std.proofs.Common.{◌≡◌, ℕ, zero, suc, ◌+◌, ◌-◌, ◌/◌, ◌%◌, ◌^◌, ◌<◌, ◌≤◌, ◌==◌, ◌&&◌, Bool, true, false, if◌then◌else◌, List, [], ◌∷◌, ◌++◌, codes, length, drop, slice_index, slice_get, Option, Some, None, unwrap_or, refl, sym, ap, subst, ◌∙◌, inl, inr, arith}
use Rattle.std.specs.Prelude.{filter, bytes_eq}
use Rattle.std.specs.List.{list_any, list_all}
use Rattle.std.specs.Fmt.{decimal, signed_decimal, digits}
use Rattle.std.specs.Str.Parse.{digits_value}
use Rattle.std.proofs.lemmas.List.{append-nil}
use Rattle.config_record.specs.locales.Locale.{is_digit}
use Rattle.notation.proofs.DecimalTexts.{IsUnits}
use Rattle.std.proofs.lemmas.Bool.{cases_Bool, and_parts, eqb-true}
use Rattle.res_value.specs.declared.value.Value.{Value}
use Rattle.res_value.specs.Word.{eight_digits}
use Rattle.res_value.specs.Complex.{signed_number, unit_of, dimension_units, fraction_units, complex_text}
use Rattle.res_value.specs.ValueText.{text_among, null_text, value_text}
use Rattle.notation.specs.ColorNotation.{is_doubled, is_opaque, first_digits, hash_text}
use Rattle.notation.specs.ComplexNotation.{spare_bits, has_own_radix, sign_of, exact_of, with_unit, complex_notation}
use Rattle.notation.specs.Decimal.{nearest, places_of, with_point, decimal_text}
use Rattle.notation.specs.FloatNotation.{float_sign, is_zero_float, has_decimal, exact_float, at_least_one, float_decimal, float_notation}
use Rattle.notation.specs.XmlText.{null_notation, reference_notation, boolean_notation, exact_text, xml_text}
use Rattle.notation.proofs.NumberTexts.{is_point, is_unit, minus_if, IsNumber, with_point_all}
use Rattle.notation.proofs.ComplexLaw.{Shows, shows, is_negative}
use Rattle.notation.proofs.FloatLaw.{FloatShows, nothing as zero_float, something, shows-float, some_places, is_negative_float}

abbrev pub value : ℕ → ℕ → Value
value kind word = record { kind = kind; word = word }

-- ---- the form of a text, as a number

abbrev pub in_units : List (List ℕ) → List ℕ → Bool
in_units units text = list_any (λ unit. bytes_eq unit text) units

abbrev pub way_by : List ℕ → List ℕ → ℕ
way_by text [] = if list_any (λ x. x == 46) text then 1 else 0
way_by text (x ∷ xs) =
    if in_units dimension_units (x ∷ xs) then 5
    else if in_units fraction_units (x ∷ xs) then 6
    else if x == 120 then 2
    else if x == 35 then 100 + length text
    else if x == 64 then (if slice_index xs 0 == 110 then 3 else if slice_index xs 0 == 101 then 4 else 30001)
    else if x == 63 then 30002
    else if x == 110 then (if slice_index text 4 == 32 then 30000 else 13)
    else if x == 115 then 9
    else if x == 102 then (if slice_index xs 0 == 108 then 30004 else if slice_index xs 0 == 114 then 10 else 8)
    else if x == 100 then (if slice_index xs 0 == 105 then 11 else 30007)
    else if x == 114 then (if slice_index text 3 == 56 then 30029 else 30031)
    else if x == 97 then 30030
    else if x == 107 then 12
    else 7

abbrev pub way_of : List ℕ → ℕ
way_of text = way_by text (filter is_unit text)

-- what stands before the digits of a word
abbrev pub prefix_of : ℕ → List ℕ
prefix_of kind =
    if kind == 0 then codes "null 0x"
    else if kind == 1 then codes "@0x"
    else if kind == 2 then codes "?0x"
    else if kind == 4 then codes "float 0x"
    else if kind == 7 then codes "dynamic 0x"
    else if kind == 29 then codes "rgb8 #"
    else if kind == 30 then codes "argb4 #"
    else codes "rgb4 #"

pub data Form (k w : ℕ) (t : List ℕ) : Type 0 where
  undefined : k ≡ 0 → w ≡ 0 → t ≡ codes "null" → Form k w t
  no_value : k ≡ 1 → w ≡ 0 → t ≡ codes "@null" → Form k w t
  empty : k ≡ 0 → w ≡ 1 → t ≡ codes "@empty" → Form k w t
  tagged : t ≡ prefix_of k ++ eight_digits w → way_of t ≡ 30000 + k → Form k w t
  unknown : t ≡ text_among [] (value k w) → Form k w t
  string : k ≡ 3 → t ≡ codes "string " ++ decimal w → Form k w t
  a_dimension : k ≡ 5 → spare_bits w ≡ 0 → t ≡ codes "dimension " ++ complex_text dimension_units w → Form k w t
  a_fraction : k ≡ 6 → spare_bits w ≡ 0 → t ≡ codes "fraction " ++ complex_text fraction_units w → Form k w t
  whole : k ≡ 16 → t ≡ signed_decimal (signed_number 32 w) → Form k w t
  hexadecimal : k ≡ 17 → t ≡ codes "0x" ++ digits 16 false w → Form k w t
  a_float : (places units : ℕ) → k ≡ 4 → (places == 0) ≡ false → FloatShows w places units → IsNumber t (is_negative_float w) (with_point places units) [] → Form k w t
  dimension : (places units : ℕ) (unit : List ℕ) → k ≡ 5 → spare_bits w ≡ 0 → has_own_radix w ≡ true → Shows 1 w places units → slice_get dimension_units (unit_of w) ≡ Some unit
      → IsNumber t (is_negative w) (with_point places units) unit → Form k w t
  fraction : (places units : ℕ) (unit : List ℕ) → k ≡ 6 → spare_bits w ≡ 0 → has_own_radix w ≡ true → Shows 100 w places units → slice_get fraction_units (unit_of w) ≡ Some unit
      → IsNumber t (is_negative w) (with_point places units) unit → Form k w t
  all_bits : k ≡ 18 → w ≡ 2 ^ 32 - 1 → t ≡ codes "true" → Form k w t
  no_bits : k ≡ 18 → w ≡ 0 → t ≡ codes "false" → Form k w t
  argb8 : k ≡ 28 → t ≡ hash_text (eight_digits w) → Form k w t
  rgb8 : k ≡ 29 → is_opaque (eight_digits w) ≡ true → t ≡ hash_text (drop 2 (eight_digits w)) → Form k w t
  argb4 : k ≡ 30 → is_doubled (eight_digits w) ≡ true → t ≡ hash_text (first_digits (eight_digits w)) → Form k w t
  rgb4 : k ≡ 31 → is_doubled (eight_digits w) ≡ true → is_opaque (eight_digits w) ≡ true → t ≡ hash_text (first_digits (drop 2 (eight_digits w))) → Form k w t

abbrev pub FormOf : ℕ → ℕ → Type 0
FormOf k w = Form k w (xml_text (value k w))

-- ---- kind by kind

at_0 : (w : ℕ) → FormOf 0 w
unfolding xml_text null_notation exact_text value_text null_text
at_0 w = elim (cases_Bool (w == 0)) [
  | inl none ↦ (let is = eqb-true w 0 none in rw is (undefined refl refl refl))
  | inr some ↦ elim (cases_Bool (w == 1)) [
    | inl one ↦ rw one (empty refl (eqb-true w 1 one) refl)
    | inr other ↦ rw (other, some) (tagged refl refl)
  ]
]

at_1 : (w : ℕ) → FormOf 1 w
unfolding xml_text reference_notation exact_text value_text
at_1 w = elim (cases_Bool (w == 0)) [
  | inl none ↦ rw none (no_value refl (eqb-true w 0 none) refl)
  | inr some ↦ rw some (tagged refl refl)
]

at_2 : (w : ℕ) → FormOf 2 w
unfolding xml_text exact_text value_text
at_2 w = tagged refl refl

at_3 : (w : ℕ) → FormOf 3 w
unfolding xml_text exact_text value_text
at_3 w = string refl refl

at_7 : (w : ℕ) → FormOf 7 w
unfolding xml_text exact_text value_text
at_7 w = tagged refl refl

at_16 : (w : ℕ) → FormOf 16 w
unfolding xml_text
at_16 w = whole refl refl

at_17 : (w : ℕ) → FormOf 17 w
unfolding xml_text
at_17 w = hexadecimal refl refl

at_18 : (w : ℕ) → FormOf 18 w
unfolding xml_text boolean_notation exact_text
at_18 w = elim (cases_Bool (w == 0)) [
  | inl none ↦ rw none (no_bits refl (eqb-true w 0 none) refl)
  | inr some ↦ rw some (elim (cases_Bool (w == 2 ^ 32 - 1)) [
    | inl all ↦ rw all (all_bits refl (eqb-true w (2 ^ 32 - 1) all) refl)
    | inr other ↦ rw other (unknown refl)
  ])
]

at_28 : (w : ℕ) → FormOf 28 w
unfolding xml_text
at_28 w = argb8 refl refl

at_29 : (w : ℕ) → FormOf 29 w
unfolding xml_text exact_text value_text
at_29 w = elim (cases_Bool (is_opaque (eight_digits w))) [
  | inl opaque ↦ rw opaque (rgb8 refl opaque refl)
  | inr other ↦ rw other (tagged refl refl)
]

at_30 : (w : ℕ) → FormOf 30 w
unfolding xml_text exact_text value_text
at_30 w = elim (cases_Bool (is_doubled (eight_digits w))) [
  | inl twice ↦ rw twice (argb4 refl twice refl)
  | inr other ↦ rw other (tagged refl refl)
]

at_31 : (w : ℕ) → FormOf 31 w
unfolding xml_text exact_text value_text
at_31 w = elim (cases_Bool (is_doubled (eight_digits w) && is_opaque (eight_digits w))) [
  | inl short ↦ (let both = and_parts (is_doubled (eight_digits w)) (is_opaque (eight_digits w)) short in rw short (rgb4 refl both.0 both.1 refl))
  | inr other ↦ rw other (tagged refl refl)
]

-- ---- floats, dimensions and fractions

float_minus : (w : ℕ) → float_sign w ≡ minus_if (is_negative_float w)
float_minus w = elim (cases_Bool (w / 2 ^ 31 == 0)) [
  | inl none ↦ rw none refl
  | inr some ↦ rw some refl
]

point_zero : with_point 1 0 ≡ codes "0.0"
unfolding digits
point_zero = refl

no_units : IsUnits 1 0
no_units = record { few_places = omega arith; whole = omega arith }

pub units_of_float : (w places units : ℕ) → FloatShows w places units → IsUnits places units
units_of_float w places units (zero_float none one zero_is) = subst (λ (k : ℕ). IsUnits k units) (sym one) (subst (λ (u : ℕ). IsUnits 1 u) (sym zero_is) no_units)
units_of_float w places units (something is near) = is

at_4 : (w : ℕ) → FormOf 4 w
unfolding xml_text float_notation float_decimal exact_text value_text
at_4 w = elim (cases_Bool (is_zero_float w)) [
  | inl none ↦ rw none (
      a_float 1 0 refl refl (zero_float (eqb-true (w % 2 ^ 31) 0 none) refl refl)
      (record {
        is = ap (λ (t : List ℕ). t ++ codes "0.0") (float_minus w) ∙ ap (λ (t : List ℕ). minus_if (is_negative_float w) ++ t) (sym point_zero) ∙ sym (append-nil (minus_if (is_negative_float w) ++ with_point 1 0));
        points = ap (list_all is_point) point_zero;
        letters = refl;
      })
      )
  | inr some ↦ rw some (elim (cases_Bool (has_decimal w)) [
    | inl here ↦ rw here (
        let exact = exact_float w in
        let places = at_least_one (places_of exact) in
        let units = nearest exact places in
        let is = shows-float w here in
        a_float places units refl (some_places (places_of exact)) is
        (record {
          is = ap (λ (t : List ℕ). t ++ with_point places units) (float_minus w) ∙ sym (append-nil (minus_if (is_negative_float w) ++ with_point places units));
          points = with_point_all places units (units_of_float w places units is);
          letters = refl;
        })
        )
    | inr other ↦ rw other (tagged refl refl)
  ])
]

-- what is known of a unit at its place
pub record IsUnitAt (place way : ℕ) (unit : List ℕ) (told : List ℕ → ℕ) : Type 0 where
  pub letters : list_all is_unit unit ≡ true
  pub place_is : told unit ≡ place
  pub way_is : (text : List ℕ) → way_by text unit ≡ way

abbrev pub told_at : List (List ℕ) → ℕ → List ℕ → ℕ
told_at [] place text = digits_value 10 (filter is_digit text)
told_at (unit ∷ units) place text = if bytes_eq unit text then place else told_at units (place + 1) text

known_as : (place way : ℕ) (unit text : List ℕ) (told : List ℕ → ℕ) → IsUnitAt place way unit told → Some unit ≡ Some text → IsUnitAt place way text told
known_as place way unit text told is e = let same : unit ≡ text = cc in subst (λ (t : List ℕ). IsUnitAt place way t told) same is

pub dimension_at : (place : ℕ) (unit : List ℕ) → slice_get dimension_units place ≡ Some unit → IsUnitAt place 5 unit (told_at dimension_units 0)
dimension_at zero unit e = known_as 0 5 (codes "px") unit (told_at dimension_units 0) (record { letters = refl; place_is = refl; way_is = λ text. refl }) e
dimension_at (suc zero) unit e = known_as 1 5 (codes "dp") unit (told_at dimension_units 0) (record { letters = refl; place_is = refl; way_is = λ text. refl }) e
dimension_at (suc (suc zero)) unit e = known_as 2 5 (codes "sp") unit (told_at dimension_units 0) (record { letters = refl; place_is = refl; way_is = λ text. refl }) e
dimension_at (suc (suc (suc zero))) unit e = known_as 3 5 (codes "pt") unit (told_at dimension_units 0) (record { letters = refl; place_is = refl; way_is = λ text. refl }) e
dimension_at (suc (suc (suc (suc zero)))) unit e = known_as 4 5 (codes "in") unit (told_at dimension_units 0) (record { letters = refl; place_is = refl; way_is = λ text. refl }) e
dimension_at (suc (suc (suc (suc (suc zero))))) unit e = known_as 5 5 (codes "mm") unit (told_at dimension_units 0) (record { letters = refl; place_is = refl; way_is = λ text. refl }) e
dimension_at (suc (suc (suc (suc (suc (suc place)))))) unit e = absurd cc

pub fraction_at : (place : ℕ) (unit : List ℕ) → slice_get fraction_units place ≡ Some unit → IsUnitAt place 6 unit (told_at fraction_units 0)
fraction_at zero unit e = known_as 0 6 (codes "%") unit (told_at fraction_units 0) (record { letters = refl; place_is = refl; way_is = λ text. refl }) e
fraction_at (suc zero) unit e = known_as 1 6 (codes "%p") unit (told_at fraction_units 0) (record { letters = refl; place_is = refl; way_is = λ text. refl }) e
fraction_at (suc (suc place)) unit e = absurd cc

exact_5 : (w : ℕ) → Form 5 w (exact_text (value 5 w))
unfolding exact_text value_text
exact_5 w = elim (cases_Bool (spare_bits w == 0)) [
  | inl none ↦ rw none (a_dimension refl (eqb-true (spare_bits w) 0 none) refl)
  | inr some ↦ rw some (unknown refl)
]

exact_6 : (w : ℕ) → Form 6 w (exact_text (value 6 w))
unfolding exact_text value_text
exact_6 w = elim (cases_Bool (spare_bits w == 0)) [
  | inl none ↦ rw none (a_fraction refl (eqb-true (spare_bits w) 0 none) refl)
  | inr some ↦ rw some (unknown refl)
]

shown_number : (times w : ℕ) (unit : List ℕ) → w < 2 ^ 32 → 1 ≤ times → times ≤ 100 → list_all is_unit unit ≡ true
    → IsNumber (sign_of w ++ decimal_text (exact_of times w) ++ unit) (is_negative w) (with_point (places_of (exact_of times w)) (nearest (exact_of times w) (places_of (exact_of times w)))) unit
unfolding decimal_text
shown_number times w unit fits some few letters =
    record { is = refl; points = with_point_all (places_of (exact_of times w)) (nearest (exact_of times w) (places_of (exact_of times w))) (shows times w fits some few).is_units; letters = letters }

at_5 : (w : ℕ) → w < 2 ^ 32 → FormOf 5 w
unfolding xml_text complex_notation
at_5 w fits = by (slice_get dimension_units (unit_of w)) refl
  where
    by : (o : Option (List ℕ)) → slice_get dimension_units (unit_of w) ≡ o → Form 5 w (unwrap_or (with_unit 1 w o) (exact_text (value 5 w)))
    by None e = exact_5 w
    by (Some unit) e = elim (cases_Bool (spare_bits w == 0 && has_own_radix w)) [
      | inl here ↦ (
          let both = and_parts (spare_bits w == 0) (has_own_radix w) here in
          rw here (
          dimension (places_of (exact_of 1 w)) (nearest (exact_of 1 w) (places_of (exact_of 1 w))) unit refl (eqb-true (spare_bits w) 0 both.0) both.1 (shows 1 w fits (omega arith) (omega arith)) e
          (shown_number 1 w unit fits (omega arith) (omega arith) (dimension_at (unit_of w) unit e).letters)
          )
          )
      | inr other ↦ rw other (exact_5 w)
    ]

at_6 : (w : ℕ) → w < 2 ^ 32 → FormOf 6 w
unfolding xml_text complex_notation
at_6 w fits = by (slice_get fraction_units (unit_of w)) refl
  where
    by : (o : Option (List ℕ)) → slice_get fraction_units (unit_of w) ≡ o → Form 6 w (unwrap_or (with_unit 100 w o) (exact_text (value 6 w)))
    by None e = exact_6 w
    by (Some unit) e = elim (cases_Bool (spare_bits w == 0 && has_own_radix w)) [
      | inl here ↦ (
          let both = and_parts (spare_bits w == 0) (has_own_radix w) here in
          rw here (
          fraction (places_of (exact_of 100 w)) (nearest (exact_of 100 w) (places_of (exact_of 100 w))) unit refl (eqb-true (spare_bits w) 0 both.0) both.1 (shows 100 w fits (omega arith) (omega arith)) e
          (shown_number 100 w unit fits (omega arith) (omega arith) (fraction_at (unit_of w) unit e).letters)
          )
          )
      | inr other ↦ rw other (exact_6 w)
    ]

-- ---- any kind

other_kinds : (k w : ℕ)
    → (k == 0) ≡ false → (k == 1) ≡ false → (k == 2) ≡ false → (k == 3) ≡ false → (k == 4) ≡ false → (k == 5) ≡ false → (k == 6) ≡ false → (k == 7) ≡ false
    → (k == 16) ≡ false → (k == 17) ≡ false → (k == 18) ≡ false → (k == 28) ≡ false → (k == 29) ≡ false → (k == 30) ≡ false → (k == 31) ≡ false → FormOf k w
unfolding xml_text exact_text value_text
other_kinds k w a b c d e f g h i j l m n o p = rw (a, b, e, f, g, i, j, l, m, n, o, p, c, d, h) (unknown refl)

at_kind : (k n w : ℕ) → (k == n) ≡ true → FormOf n w → FormOf k w
at_kind k n w is form = subst (λ (m : ℕ). FormOf m w) (sym (eqb-true k n is)) form

pub form_of : (k w : ℕ) → w < 2 ^ 32 → FormOf k w
form_of k w fits = elim (cases_Bool (k == 0)) [
  | inl is ↦ at_kind k 0 w is (at_0 w)
  | inr a ↦ elim (cases_Bool (k == 1)) [
    | inl is ↦ at_kind k 1 w is (at_1 w)
    | inr b ↦ elim (cases_Bool (k == 2)) [
      | inl is ↦ at_kind k 2 w is (at_2 w)
      | inr c ↦ elim (cases_Bool (k == 3)) [
        | inl is ↦ at_kind k 3 w is (at_3 w)
        | inr d ↦ elim (cases_Bool (k == 4)) [
          | inl is ↦ at_kind k 4 w is (at_4 w)
          | inr e ↦ elim (cases_Bool (k == 5)) [
            | inl is ↦ at_kind k 5 w is (at_5 w fits)
            | inr f ↦ elim (cases_Bool (k == 6)) [
              | inl is ↦ at_kind k 6 w is (at_6 w fits)
              | inr g ↦ elim (cases_Bool (k == 7)) [
                | inl is ↦ at_kind k 7 w is (at_7 w)
                | inr h ↦ elim (cases_Bool (k == 16)) [
                  | inl is ↦ at_kind k 16 w is (at_16 w)
                  | inr i ↦ elim (cases_Bool (k == 17)) [
                    | inl is ↦ at_kind k 17 w is (at_17 w)
                    | inr j ↦ elim (cases_Bool (k == 18)) [
                      | inl is ↦ at_kind k 18 w is (at_18 w)
                      | inr l ↦ elim (cases_Bool (k == 28)) [
                        | inl is ↦ at_kind k 28 w is (at_28 w)
                        | inr m ↦ elim (cases_Bool (k == 29)) [
                          | inl is ↦ at_kind k 29 w is (at_29 w)
                          | inr n ↦ elim (cases_Bool (k == 30)) [
                            | inl is ↦ at_kind k 30 w is (at_30 w)
                            | inr o ↦ elim (cases_Bool (k == 31)) [
                              | inl is ↦ at_kind k 31 w is (at_31 w)
                              | inr p ↦ other_kinds k w a b c d e f g h i j l m n o p
                            ]
                          ]
                        ]
                      ]
                    ]
                  ]
                ]
              ]
            ]
          ]
        ]
      ]
    ]
  ]
]
