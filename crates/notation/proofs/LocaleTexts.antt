-- A language and a region, and the texts that say them.
use Rattle.std.proofs.Common.{◌≡◌, ◌≢◌, ℕ, zero, suc, ◌+◌, ◌*◌, ◌/◌, ◌%◌, ◌<◌, ◌≤◌, ◌==◌, ◌&&◌, ◌||◌, not, nat_lt, Bool, true, false, if◌then◌else◌, List, [], ◌∷◌, ◌++◌, codes, length, slice_index, Option, Some, None, is_some, ◌⊎◌, refl, sym, ap, ◌∙◌, inl, inr, arith}
use Rattle.std.specs.List.{list_any, list_all, prefix_len}
use Rattle.std.proofs.lemmas.Bool.{cases_Bool, and_parts, eqb-true, eq-eqb, lt-ltb, ltb-true, ltb-false}
use Rattle.std.proofs.Math.Bool.{or-true}
use Rattle.std.proofs.lemmas.List.{append-nil}
use Rattle.hex.specs.Hex.{lower_digits, encode_lower, encode_with, is_hex_digit, IsBytes, decode_of}
use Rattle.hex.proofs.HexLemmas.{decode_of-same, decode_of-encode_lower, IsDigits-lower_digits}
use Rattle.config_record.specs.locales.declared.locale.Locale.{Locale}
use Rattle.config_record.specs.locales.Zero.{is_zero}
use Rattle.config_record.specs.locales.Locale.{dash, first_letter, first_digit, is_small_letter, is_capital_letter, is_digit, unpacked, is_spelled, language_of, region_of, language_text, region_text, plain_text, without_script}
use Rattle.config_record.specs.locales.Text.{locale_text}
use Rattle.notation.specs.Cut.{cut_at, cut_at_place}
use Rattle.notation.specs.LocaleParts.{is_language}
use Rattle.notation.proofs.Digits.{no_mark}

-- ---- cuts

abbrev place_if : ℕ → List ℕ → Option ℕ
place_if k xs = if nat_lt k (length xs) then Some k else None

place-next : (x k : ℕ) (xs : List ℕ) → cut_at_place (x ∷ xs) (place_if (1 + k) (x ∷ xs)) ≡ (x ∷ (cut_at_place xs (place_if k xs)).0, (cut_at_place xs (place_if k xs)).1)
place-next x k xs = elim (cases_Bool (nat_lt k (length xs))) [
  | inl within ↦
      let before = ltb-true k (length xs) within in
      let next : 1 + k ≡ suc k = omega arith in
      let behind : suc k + 1 ≡ suc (k + 1) = omega arith in
      rw (within, lt-ltb (1 + k) (length (x ∷ xs)) (omega (arith, before)), next, behind) refl
  | inr past ↦ elim (cases_Bool (nat_lt (1 + k) (length (x ∷ xs)))) [
    | inl within ↦ absurd (omega (arith, ltb-true (1 + k) (length (x ∷ xs)) within, ltb-false k (length xs) past))
    | inr also ↦ rw (past, also) refl
  ]
]

module _ (mark : ℕ) where
  abbrev is_mark : ℕ → Bool
  is_mark b = b == mark

  pub cut_at-here : (xs : List ℕ) → cut_at mark (mark ∷ xs) ≡ ([], Some xs)
  cut_at-here xs = rw (eq-eqb mark mark refl, lt-ltb 0 (length (mark ∷ xs)) (omega arith)) refl

  pub cut_at-nil : cut_at mark [] ≡ ([], None)
  cut_at-nil = refl

  pub cut_at-next : (x : ℕ) (xs : List ℕ) → (x == mark) ≡ false → cut_at mark (x ∷ xs) ≡ (x ∷ (cut_at mark xs).0, (cut_at mark xs).1)
  cut_at-next x xs other = rw other (place-next x (prefix_len (λ b. not (is_mark b)) xs) xs)

  pub cut_at-behind : (xs ys : List ℕ) → list_any is_mark xs ≡ false → cut_at mark (xs ++ mark ∷ ys) ≡ (xs, Some ys)
  cut_at-behind [] ys none = cut_at-here ys
  cut_at-behind (x ∷ xs) ys none = elim (cases_Bool (is_mark x)) [
    | inl here ↦ absurd (let found = rw here at none in cc)
    | inr other ↦ cut_at-next x (xs ++ mark ∷ ys) other ∙ rw (cut_at-behind xs ys (rw other at none)) refl
  ]

  pub cut_at-whole : (xs : List ℕ) → list_any is_mark xs ≡ false → cut_at mark xs ≡ (xs, None)
  cut_at-whole [] none = cut_at-nil
  cut_at-whole (x ∷ xs) none = elim (cases_Bool (is_mark x)) [
    | inl here ↦ absurd (let found = rw here at none in cc)
    | inr other ↦ cut_at-next x xs other ∙ rw (cut_at-whole xs (rw other at none)) refl
  ]

-- ---- the letters of two bytes

not_true : false ≡ true → ⊥
not_true same = cc

two_or_three : (a b x y z : ℕ) → a ∷ b ∷ [] ≡ x ∷ y ∷ z ∷ [] → ⊥
two_or_three a b x y z same = cc

three_same : (a b c x y z : ℕ) → a ∷ b ∷ c ∷ [] ≡ x ∷ y ∷ z ∷ [] → (a ≡ x) × (b ≡ y) × (c ≡ z)
three_same a b c x y z same = (cc, cc, cc)

pub unpacked-same : (base a b c d : ℕ) → a < 256 → b < 256 → c < 256 → d < 256 → unpacked base (a ∷ b ∷ []) ≡ unpacked base (c ∷ d ∷ []) → a ∷ b ∷ [] ≡ c ∷ d ∷ []
unpacked-same base a b c d p q r s e = elim (cases_Bool (nat_lt a 128)) [
  | inl two ↦ elim (cases_Bool (nat_lt c 128)) [
    | inl also ↦ rw (two, also) at e
    | inr three ↦ absurd (two_or_three _ _ _ _ _ (rw (two, three) at e))
  ]
  | inr three ↦ elim (cases_Bool (nat_lt c 128)) [
    | inl two ↦ absurd (two_or_three _ _ _ _ _ (sym (rw (three, two) at e)))
    | inr also ↦ (
        let all = three_same _ _ _ _ _ _ (rw (three, also) at e) in
        let first : base + b % 32 ≡ base + d % 32 = all.0 in
        let second : base + (b / 32 + a % 4 * 8) ≡ base + (d / 32 + c % 4 * 8) = all.1 in
        let third : base + a / 4 % 32 ≡ base + c / 4 % 32 = all.2 in
        let high : 128 ≤ a = ltb-false a 128 three in
        let higher : 128 ≤ c = ltb-false c 128 also in
        let left : a ≡ c = omega (arith, first, second, third, high, higher, p, q, r, s) in
        let right : b ≡ d = omega (arith, first, second, third, p, q, r, s) in
        rw (left, right) refl
        )
  ]
]

-- letters of one kind, no more than three
pub record IsText (letter : ℕ → Bool) (text : List ℕ) : Type 0 where
  pub all : list_all letter text ≡ true
  pub some : 0 < length text
  pub few : length text ≤ 3

abbrev pub IsRegion : List ℕ → Type 0
IsRegion text = IsText is_capital_letter text ⊎ IsText is_digit text

abbrev pub is_region_letter : ℕ → Bool
is_region_letter byte = is_capital_letter byte || is_digit byte

-- letters of a kind are of a wider one
pub widened : {X : Type 0} (p q : X → Bool) (xs : List X) → ((x : X) → p x ≡ true → q x ≡ true) → list_all p xs ≡ true → list_all q xs ≡ true
widened p q [] wide all = refl
widened p q (x ∷ xs) wide all = let both = and_parts (p x) (list_all p xs) all in rw (wide x both.0) (widened p q xs wide both.1)

pub region_letters : (text : List ℕ) → IsRegion text → list_all is_region_letter text ≡ true
region_letters text (inl capitals) = widened is_capital_letter is_region_letter text (λ x is. rw is refl) capitals.all
region_letters text (inr digits) = widened is_digit is_region_letter text (λ x is. rw (is, or-true) refl) digits.all

pub language-letters : (text : List ℕ) → is_some (language_of text) ≡ true → IsText is_small_letter text
language-letters [] e = absurd (not_true e)
language-letters (a ∷ []) e = absurd (not_true e)
language-letters (a ∷ b ∷ []) e = elim (cases_Bool (is_small_letter a && is_small_letter b)) [
  | inl are ↦ (let both = and_parts (is_small_letter a) (is_small_letter b) are in record { all = rw (both.0, both.1) refl; some = omega arith; few = omega arith })
  | inr other ↦ absurd (not_true (rw other at e))
]
language-letters (a ∷ b ∷ c ∷ []) e = elim (cases_Bool (is_small_letter a && is_small_letter b && is_small_letter c)) [
  | inl are ↦ (let both = and_parts (is_small_letter a && is_small_letter b) (is_small_letter c) are in let two = and_parts (is_small_letter a) (is_small_letter b) both.0 in record { all = rw (two.0, two.1, both.1) refl; some = omega arith; few = omega arith })
  | inr other ↦ absurd (not_true (rw other at e))
]
language-letters (a ∷ b ∷ c ∷ d ∷ text) e = absurd (not_true e)

pub region-letters : (text : List ℕ) → is_some (region_of text) ≡ true → IsRegion text
region-letters [] e = absurd (not_true e)
region-letters (a ∷ []) e = absurd (not_true e)
region-letters (a ∷ b ∷ []) e = elim (cases_Bool (is_capital_letter a && is_capital_letter b)) [
  | inl are ↦ (let both = and_parts (is_capital_letter a) (is_capital_letter b) are in inl (record { all = rw (both.0, both.1) refl; some = omega arith; few = omega arith }))
  | inr other ↦ absurd (not_true (rw other at e))
]
region-letters (a ∷ b ∷ c ∷ []) e = elim (cases_Bool (is_digit a && is_digit b && is_digit c)) [
  | inl are ↦ (let both = and_parts (is_digit a && is_digit b) (is_digit c) are in let two = and_parts (is_digit a) (is_digit b) both.0 in inr (record { all = rw (two.0, two.1, both.1) refl; some = omega arith; few = omega arith }))
  | inr other ↦ absurd (not_true (rw other at e))
]
region-letters (a ∷ b ∷ c ∷ d ∷ text) e = absurd (not_true e)

-- ---- a language and a region of two bytes each

abbrev pub locale_of_bytes : ℕ → ℕ → ℕ → ℕ → Locale
locale_of_bytes a b c d = without_script (a ∷ b ∷ []) (c ∷ d ∷ [])

pub record AreBytes (a b c d : ℕ) : Type 0 where
  pub first : a < 256
  pub second : b < 256
  pub third : c < 256
  pub fourth : d < 256

abbrev pub region_if : List ℕ → Option (List ℕ)
region_if region = if is_zero region then None else Some (unpacked first_digit region)

plain : (a b c d : ℕ) → locale_text (locale_of_bytes a b c d) ≡ plain_text (locale_of_bytes a b c d)
unfolding locale_text
plain a b c d = refl

-- what is spelled is in letters
pub record IsSpelled (language region : List ℕ) : Type 0 where
  pub language_letters : is_zero language ≡ false → IsText is_small_letter (unpacked first_letter language)
  pub region_letters : is_zero region ≡ false → IsRegion (unpacked first_digit region)

pub spelled_of : (l : Locale) → is_spelled l ≡ true → IsSpelled l.language l.region
spelled_of l spelled =
    let both = and_parts (is_zero l.language || is_some (language_of (unpacked first_letter l.language))) (is_zero l.region || is_some (region_of (unpacked first_digit l.region))) spelled in
    record {
      language_letters = λ some. language-letters _ (rw some at both.0);
      region_letters = λ some. region-letters _ (rw some at both.1);
    }

cut_region : (front region : List ℕ) → list_any (λ x. x == dash) front ≡ false → cut_at dash (front ++ region_text region) ≡ (front, region_if region)
cut_region front region none = elim (cases_Bool (is_zero region)) [
  | inl zeros ↦ rw (zeros, append-nil front) (cut_at-whole dash front none)
  | inr some ↦ rw some (cut_at-behind dash front (unpacked first_digit region) none)
]

pub no_dash_in : (language region : List ℕ) → IsSpelled language region → list_any (λ x. x == dash) (language_text language) ≡ false
no_dash_in language region is = elim (cases_Bool (is_zero language)) [
  | inl zeros ↦ rw zeros refl
  | inr some ↦ rw some (no_mark is_small_letter dash (unpacked first_letter language) refl (is.language_letters some).all)
]

pub spelled-text : (a b c d : ℕ) → is_spelled (locale_of_bytes a b c d) ≡ true → locale_text (locale_of_bytes a b c d) ≡ language_text (a ∷ b ∷ []) ++ region_text (c ∷ d ∷ [])
unfolding plain_text
spelled-text a b c d spelled = plain a b c d ∙ rw spelled refl

pub spelled-cut : (a b c d : ℕ) → is_spelled (locale_of_bytes a b c d) ≡ true
    → cut_at dash (locale_text (locale_of_bytes a b c d)) ≡ (language_text (a ∷ b ∷ []), region_if (c ∷ d ∷ []))
spelled-cut a b c d spelled =
    ap (cut_at dash) (spelled-text a b c d spelled)
    ∙ cut_region (language_text (a ∷ b ∷ [])) (c ∷ d ∷ []) (no_dash_in (a ∷ b ∷ []) (c ∷ d ∷ []) (spelled_of (locale_of_bytes a b c d) spelled))

abbrev pub digits_text : ℕ → ℕ → ℕ → ℕ → List ℕ
digits_text a b c d = codes "x" ++ encode_lower (a ∷ b ∷ []) ++ encode_lower (c ∷ d ∷ [])

pub unspelled : (a b c d : ℕ) → is_spelled (locale_of_bytes a b c d) ≡ false → locale_text (locale_of_bytes a b c d) ≡ digits_text a b c d
unfolding plain_text
unspelled a b c d other = plain a b c d ∙ rw other refl

all_bytes : (a b c d : ℕ) → digits_text a b c d ≡ 120 ∷ encode_lower (a ∷ b ∷ c ∷ d ∷ [])
unfolding encode_with
all_bytes a b c d = refl

pub hex-same : (xs ys : List ℕ) → IsBytes xs → IsBytes ys → encode_lower xs ≡ encode_lower ys → xs ≡ ys
hex-same xs ys p q e = decode_of-same (encode_lower ys) xs ys (ap decode_of (sym e) ∙ decode_of-encode_lower xs p) (decode_of-encode_lower ys q)

bytes_of : (a b c d : ℕ) → AreBytes a b c d → IsBytes (a ∷ b ∷ c ∷ d ∷ [])
bytes_of a b c d is zero = is.first
bytes_of a b c d is (suc zero) = is.second
bytes_of a b c d is (suc (suc zero)) = is.third
bytes_of a b c d is (suc (suc (suc zero))) = is.fourth
bytes_of a b c d is (suc (suc (suc (suc i)))) = omega arith

digits-same : (a b c d e f g h : ℕ) → AreBytes a b c d → AreBytes e f g h → digits_text a b c d ≡ digits_text e f g h → locale_of_bytes a b c d ≡ locale_of_bytes e f g h
digits-same a b c d e f g h p q same =
    let texts = sym (all_bytes a b c d) ∙ same ∙ all_bytes e f g h in
    let digits : encode_lower (a ∷ b ∷ c ∷ d ∷ []) ≡ encode_lower (e ∷ f ∷ g ∷ h ∷ []) = cc in
    let bytes = hex-same _ _ (bytes_of a b c d p) (bytes_of e f g h q) digits in
    cc

zeros : (a b : ℕ) → is_zero (a ∷ b ∷ []) ≡ true → a ∷ b ∷ [] ≡ 0 ∷ 0 ∷ []
zeros a b none =
    let both = and_parts (a == 0) (b == 0 && true) none in
    let second = and_parts (b == 0) true both.1 in
    rw (eqb-true a 0 both.0, eqb-true b 0 second.0) refl

some_letters : (base a b : ℕ) → unpacked base (a ∷ b ∷ []) ≢ []
some_letters base a b e = elim (cases_Bool (nat_lt a 128)) [
  | inl two ↦ (let none = rw two at e in cc)
  | inr three ↦ (let none = rw three at e in cc)
]

-- nothing where it is zero
language-same : (a b c d : ℕ) → a < 256 → b < 256 → c < 256 → d < 256 → language_text (a ∷ b ∷ []) ≡ language_text (c ∷ d ∷ []) → a ∷ b ∷ [] ≡ c ∷ d ∷ []
language-same a b c d p q r s e = elim (cases_Bool (is_zero (a ∷ b ∷ []))) [
  | inl none ↦ elim (cases_Bool (is_zero (c ∷ d ∷ []))) [
    | inl also ↦ zeros a b none ∙ sym (zeros c d also)
    | inr some ↦ absurd (some_letters first_letter c d (sym (rw (none, some) at e)))
  ]
  | inr some ↦ elim (cases_Bool (is_zero (c ∷ d ∷ []))) [
    | inl none ↦ absurd (some_letters first_letter a b (rw (some, none) at e))
    | inr also ↦ unpacked-same first_letter a b c d p q r s (rw (some, also) at e)
  ]
]

region-same : (a b c d : ℕ) → a < 256 → b < 256 → c < 256 → d < 256 → region_if (a ∷ b ∷ []) ≡ region_if (c ∷ d ∷ []) → a ∷ b ∷ [] ≡ c ∷ d ∷ []
region-same a b c d p q r s e = elim (cases_Bool (is_zero (a ∷ b ∷ []))) [
  | inl none ↦ elim (cases_Bool (is_zero (c ∷ d ∷ []))) [
    | inl also ↦ zeros a b none ∙ sym (zeros c d also)
    | inr some ↦ absurd (let other = rw (none, some) at e in cc)
  ]
  | inr some ↦ elim (cases_Bool (is_zero (c ∷ d ∷ []))) [
    | inl none ↦ absurd (let other = rw (some, none) at e in cc)
    | inr also ↦ (
        let texts = rw (some, also) at e in
        let same : unpacked first_digit (a ∷ b ∷ []) ≡ unpacked first_digit (c ∷ d ∷ []) = cc in
        unpacked-same first_digit a b c d p q r s same
        )
  ]
]

hex_digit : (n : ℕ) → n < 16 → is_hex_digit (slice_index lower_digits n) ≡ true
hex_digit n small = rw (IsDigits-lower_digits n small) refl

pub hex-all : (xs : List ℕ) → IsBytes xs → list_all is_hex_digit (encode_lower xs) ≡ true
unfolding encode_with
hex-all [] bytes = refl
hex-all (x ∷ xs) bytes =
    let byte = bytes 0 in
    rw (hex_digit (x / 16) (omega (arith, byte)), hex_digit (x % 16) (omega arith)) (hex-all xs (λ i. bytes (suc i)))

-- nine bytes, and no dash among them
pub no_dash_in_digits : (a b c d : ℕ) → AreBytes a b c d → list_any (λ x. x == dash) (digits_text a b c d) ≡ false
no_dash_in_digits a b c d is =
    ap (λ (t : List ℕ). list_any (λ x. x == dash) t) (all_bytes a b c d)
    ∙ no_mark is_hex_digit dash (encode_lower (a ∷ b ∷ c ∷ d ∷ [])) refl (hex-all (a ∷ b ∷ c ∷ d ∷ []) (bytes_of a b c d is))

digits-cut : (a b c d : ℕ) → AreBytes a b c d → is_spelled (locale_of_bytes a b c d) ≡ false
    → cut_at dash (locale_text (locale_of_bytes a b c d)) ≡ (digits_text a b c d, None)
digits-cut a b c d is other = ap (cut_at dash) (unspelled a b c d other) ∙ cut_at-whole dash (digits_text a b c d) (no_dash_in_digits a b c d is)

nine : (a b c d : ℕ) → length (digits_text a b c d) ≡ 9
unfolding encode_with
nine a b c d = refl

few : (a b : ℕ) (region : List ℕ) → IsSpelled (a ∷ b ∷ []) region → length (language_text (a ∷ b ∷ [])) ≤ 3
few a b region is = elim (cases_Bool (is_zero (a ∷ b ∷ []))) [
  | inl none ↦ rw none (omega arith)
  | inr some ↦ rw some (is.language_letters some).few
]

-- the text of a locale determines it
pub text-same : (a b c d e f g h : ℕ) → AreBytes a b c d → AreBytes e f g h
    → locale_text (locale_of_bytes a b c d) ≡ locale_text (locale_of_bytes e f g h) → locale_of_bytes a b c d ≡ locale_of_bytes e f g h
text-same a b c d e f g h p q same = elim (cases_Bool (is_spelled (locale_of_bytes a b c d))) [
  | inl spelled ↦ elim (cases_Bool (is_spelled (locale_of_bytes e f g h))) [
    | inl also ↦ (
        let cuts = sym (spelled-cut a b c d spelled) ∙ ap (cut_at dash) same ∙ spelled-cut e f g h also in
        let languages = language-same a b e f p.first p.second q.first q.second (λ i. (cuts i).0) in
        let regions = region-same c d g h p.third p.fourth q.third q.fourth (λ i. (cuts i).1) in
        cc
        )
    | inr digits ↦ absurd (
        let cuts = sym (spelled-cut a b c d spelled) ∙ ap (cut_at dash) same ∙ digits-cut e f g h q digits in
        let fronts : language_text (a ∷ b ∷ []) ≡ digits_text e f g h = λ i. (cuts i).0 in
        omega (arith, ap (λ (t : List ℕ). length t) fronts, nine e f g h, few a b (c ∷ d ∷ []) (spelled_of (locale_of_bytes a b c d) spelled))
        )
  ]
  | inr digits ↦ elim (cases_Bool (is_spelled (locale_of_bytes e f g h))) [
    | inl spelled ↦ absurd (
        let cuts = sym (spelled-cut e f g h spelled) ∙ ap (cut_at dash) (sym same) ∙ digits-cut a b c d p digits in
        let fronts : language_text (e ∷ f ∷ []) ≡ digits_text a b c d = λ i. (cuts i).0 in
        omega (arith, ap (λ (t : List ℕ). length t) fronts, nine a b c d, few e f (g ∷ h ∷ []) (spelled_of (locale_of_bytes e f g h) spelled))
        )
    | inr also ↦ digits-same a b c d e f g h p q (sym (unspelled a b c d digits) ∙ same ∙ unspelled e f g h also)
  ]
]

-- ---- what is said in letters

abbrev pub RegionIs : List ℕ → Option (List ℕ) → Type 0
RegionIs region None = is_zero region ≡ true
RegionIs region (Some text) = (unpacked first_digit region ≡ text) × IsRegion text

pub record IsSaidBy (l : Locale) (texts : List ℕ × Option (List ℕ)) : Type 0 where
  pub language : unpacked first_letter l.language ≡ texts.0
  pub letters : IsText is_small_letter texts.0
  pub region : RegionIs l.region texts.1

region_is : (region : List ℕ) → (is_zero region ≡ false → IsRegion (unpacked first_digit region)) → RegionIs region (region_if region)
region_is region letters = elim (cases_Bool (is_zero region)) [
  | inl none ↦ rw none none
  | inr some ↦ rw some (refl, letters some)
]

pub said_by : (a b c d : ℕ) → AreBytes a b c d → is_language (cut_at dash (locale_text (locale_of_bytes a b c d))).0 ≡ true
    → IsSaidBy (locale_of_bytes a b c d) (cut_at dash (locale_text (locale_of_bytes a b c d)))
said_by a b c d is said = elim (cases_Bool (is_spelled (locale_of_bytes a b c d))) [
  | inl spelled ↦
      let letters = spelled_of (locale_of_bytes a b c d) spelled in
      elim (cases_Bool (is_zero (a ∷ b ∷ []))) [
        | inl none ↦ absurd (not_true (rw (spelled-cut a b c d spelled, none) at said))
        | inr some ↦ rw (spelled-cut a b c d spelled, some) (record { language = refl; letters = letters.language_letters some; region = region_is (c ∷ d ∷ []) letters.region_letters })
      ]
  | inr digits ↦ absurd (not_true (rw (digits-cut a b c d is digits, nine a b c d) at said))
]
