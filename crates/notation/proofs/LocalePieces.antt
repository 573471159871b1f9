-- The pieces of a locale: of what they speak, and that they determine it.
use Rattle.std.proofs.Common.{◌≡◌, ℕ, ◌<◌, ◌≤◌, ◌==◌, ◌&&◌, ◌||◌, not, nat_le, Bool, true, false, if◌then◌else◌, List, [], ◌∷◌, ◌++◌, codes, length, slice_index, Option, Some, None, is_some, ◌⊎◌, refl, sym, ap, subst, ◌∙◌, inl, inr, arith, append_assoc}
use Rattle.std.specs.List.{list_any, list_all, flat_map, join_with_byte}
use Rattle.std.specs.Option.{option_to_list}
use Rattle.std.proofs.Math.Bool.{or-true, and-false}
use Rattle.std.proofs.lemmas.Bool.{cases_Bool, and_parts, eqb-true, eq-eqb, leb-true, le-leb}
use Rattle.std.proofs.lemmas.List.{append-nil}
use Rattle.std.proofs.lemmas.List.Concat.{flat_map-append}
use Rattle.std.proofs.lemmas.List.Elements.{filter-append}
use Rattle.std.proofs.lemmas.List.Folds.{list_any-append, list_all-append}
use Rattle.std.proofs.lemmas.List.Splits.{join_with_byte-slice_split}
use Rattle.hex.specs.Hex.{encode_lower, is_hex_digit, IsBytes}
use Rattle.config_record.specs.declared.coord.Coord.TheVariants as coords
use Rattle.config_record.specs.Coord.{all_coords, name_of, place_of}
use Rattle.config_record.specs.Qualifiers.{qualifier, locale_qualifier, bytes_qualifier}
use Rattle.config_record.specs.locales.declared.locale.Locale.{Locale}
use Rattle.config_record.specs.locales.Zero.{is_zero}
use Rattle.config_record.specs.locales.Locale.{dash, first_letter, first_digit, is_small_letter, is_capital_letter, is_digit, unpacked, is_spelled, language_text}
use Rattle.config_record.specs.locales.Text.{is_dash, locale_text, written_script}
use Rattle.notation.specs.Cut.{cut_at, behind_sign}
use Rattle.notation.specs.Words.{words, find_word}
use Rattle.notation.specs.Forms.{forms}
use Rattle.notation.specs.LocaleParts.{is_language, is_script, is_variant, is_written_variant, is_variant_letter, are_zeros, variant_text, are_letters, is_other_word, script_behind, variant_behind, tag_text, letters_text, named_parts, locale_parts}
use Rattle.notation.proofs.Digits.{letters_of, filter-all, filter-none, any-none, all-not, no_mark, is_no_digit}
use Rattle.notation.proofs.Pieces.{pieces_of, pieces_of-whole, split_at, split_at-append, split_at-whole, any-pieces, all_are, Three, three-same}
use Rattle.notation.proofs.PieceKinds.{is_equals, is_bracket, of_locale, of_script, of_variant, kind_named, Row, kind_among, number_rows, word_rows, kind_said, kind_of, no_word, kind_among-no_word}
use Rattle.notation.proofs.NumberPieces.{owner, is_of}
use Rattle.notation.proofs.LocaleTexts.{cut_at-next, cut_at-here, locale_of_bytes, AreBytes, widened, IsText, IsRegion, is_region_letter, region_letters, RegionIs, IsSaidBy, said_by, unpacked-same, text-same, hex-all, hex-same, spelled_of, spelled-text, no_dash_in, unspelled, digits_text, no_dash_in_digits}

-- ---- what letters have not

abbrev none_of : ℕ → List ℕ → Type 0
none_of mark text = list_any (λ x. x == mark) text ≡ false

region_text_none : (mark : ℕ) (sign : List ℕ) (region : Option (List ℕ)) (bytes : List ℕ) → none_of mark sign → is_region_letter mark ≡ false → RegionIs bytes region → none_of mark (behind_sign sign region)
region_text_none mark sign None bytes none other is = refl
region_text_none mark sign (Some text) bytes none other is =
    list_any-append (λ x. x == mark) sign text ∙ rw (none, no_mark is_region_letter mark text other (region_letters text is.1)) refl

-- ---- kinds of letters

any_row_marked : (rows : List Row) (text : List ℕ) → list_all (λ r. r.digits) rows ≡ true → kind_among rows text false ≡ of_locale
any_row_marked [] text all = refl
any_row_marked (r ∷ rows) text all =
    let both = and_parts r.digits (list_all (λ r. r.digits) rows) all in
    rw (both.0, and-false) (any_row_marked rows text both.1)

-- what is no word and has no digits is of the locale
kind_of-letters : (text : List ℕ) → list_any is_equals text ≡ false → list_any is_bracket text ≡ false → list_any is_digit text ≡ false → find_word words text ≡ None → kind_of text ≡ of_locale
unfolding kind_of kind_said word_rows number_rows forms
kind_of-letters text equals bracket digit none =
    rw (equals, bracket, digit, filter-all is_no_digit text (all-not is_digit text digit), kind_among-no_word words text none) (any_row_marked number_rows text refl)

-- what is a number behind letters of which no number is
kind_of-marked : (text letters : List ℕ) → list_any is_equals text ≡ false → list_any is_bracket text ≡ false → list_any is_digit text ≡ true → letters_of text ≡ letters → kind_said letters true ≡ of_locale → kind_of text ≡ of_locale
unfolding kind_of
kind_of-marked text letters equals bracket digit same kind = rw (equals, bracket, digit, same) kind

small_is_no_digit : (x : ℕ) → is_small_letter x ≡ true → is_digit x ≡ false
small_is_no_digit x small = elim (cases_Bool (is_digit x)) [
  | inl digit ↦ absurd (
      let low = and_parts (nat_le first_letter x) (nat_le x 122) small in
      let high = and_parts (nat_le first_digit x) (nat_le x 57) digit in
      omega (arith, leb-true first_letter x low.0, leb-true x 57 high.1)
      )
  | inr none ↦ none
]

capital_is_no_digit : (x : ℕ) → is_capital_letter x ≡ true → is_digit x ≡ false
capital_is_no_digit x capital = elim (cases_Bool (is_digit x)) [
  | inl digit ↦ absurd (
      let low = and_parts (nat_le 65 x) (nat_le x 90) capital in
      let high = and_parts (nat_le first_digit x) (nat_le x 57) digit in
      omega (arith, leb-true 65 x low.0, leb-true x 57 high.1)
      )
  | inr none ↦ none
]

language_kind : (language : List ℕ) → IsText is_small_letter language → is_other_word language ≡ false → kind_of language ≡ of_locale
language_kind language is no_other =
    kind_of-letters language (no_mark is_small_letter 61 language refl is.all) (no_mark is_small_letter 40 language refl is.all)
    (any-none is_small_letter is_digit language small_is_no_digit is.all) (none_by (find_word words language) no_other)
  where
    none_by : {X : Type 0} (o : Option X) → is_some o ≡ false → o ≡ None
    none_by None e = refl
    none_by (Some x) e = absurd cc

some-all : (p : ℕ → Bool) (xs : List ℕ) → list_all p xs ≡ true → 0 < length xs → list_any p xs ≡ true
some-all p [] all some = absurd (omega (arith, some))
some-all p (x ∷ xs) all some = let both = and_parts (p x) (list_all p xs) all in rw both.0 refl

-- what may stand before a region
record IsFront (front : List ℕ) : Type 0 where
  equals : list_any is_equals front ≡ false
  bracket : list_any is_bracket front ≡ false
  digit : list_any is_digit front ≡ false
  said : kind_said front true ≡ of_locale

before_r : IsFront (codes "r")
unfolding kind_said number_rows word_rows words forms place_of
before_r = record { equals = refl; bracket = refl; digit = refl; said = refl }

nothing_before : IsFront []
unfolding kind_said number_rows word_rows words forms place_of
nothing_before = record { equals = refl; bracket = refl; digit = refl; said = refl }

pub neither : (p : ℕ → Bool) (xs ys : List ℕ) → list_any p xs ≡ false → list_any p ys ≡ false → list_any p (xs ++ ys) ≡ false
neither p xs ys first second = list_any-append p xs ys ∙ rw (first, second) refl

second_has : (p : ℕ → Bool) (xs ys : List ℕ) → list_any p ys ≡ true → list_any p (xs ++ ys) ≡ true
second_has p xs ys second = list_any-append p xs ys ∙ rw (second, or-true) refl

region_kind : (front text : List ℕ) → IsFront front → IsRegion text → kind_of (front ++ text) ≡ of_locale
unfolding words
region_kind front text is (inl capitals) =
    kind_of-letters (front ++ text) (neither is_equals front text is.equals (no_mark is_capital_letter 61 text refl capitals.all)) (neither is_bracket front text is.bracket (no_mark is_capital_letter 40 text refl capitals.all))
    (neither is_digit front text is.digit (any-none is_capital_letter is_digit text capital_is_no_digit capitals.all))
    (no_word is_capital_letter words (front ++ text) refl (second_has is_capital_letter front text (some-all is_capital_letter text capitals.all capitals.some)))
region_kind front text is (inr digits) =
    let letters =
    filter-append is_no_digit front text
    ∙ rw (filter-all is_no_digit front (all-not is_digit front is.digit), filter-none is_no_digit text (any-none is_digit is_no_digit text (λ x one. rw one refl) digits.all)) (append-nil front) in
    kind_of-marked (front ++ text) front (neither is_equals front text is.equals (no_mark is_digit 61 text refl digits.all)) (neither is_bracket front text is.bracket (no_mark is_digit 40 text refl digits.all))
    (second_has is_digit front text (some-all is_digit text digits.all digits.some))
    letters
    is.said

-- behind `b+` nothing else is said than a locale
kind_b_plus : (others : List ℕ) (digits : Bool) → kind_said (98 ∷ 43 ∷ others) digits ≡ of_locale
unfolding kind_said number_rows word_rows words forms place_of
kind_b_plus others true = refl
kind_b_plus others false = refl

tag_kind : (others : List ℕ) → none_of 61 others → none_of 40 others → kind_of (codes "b+" ++ others) ≡ of_locale
unfolding kind_of
tag_kind others equals bracket = rw (equals, bracket) (kind_b_plus (letters_of others) (list_any is_digit others))

-- ---- the three ways in which a locale is written

abbrev region_pieces : Option (List ℕ) → List (List ℕ)
region_pieces None = []
region_pieces (Some text) = (codes "r" ++ text) ∷ []

legacy_pieces : (language : List ℕ) (region : Option (List ℕ)) (bytes : List ℕ) → IsText is_small_letter language → RegionIs bytes region
    → pieces_of (language ++ behind_sign (codes "-r") region) ≡ language ∷ region_pieces region
legacy_pieces language None bytes is known = ap pieces_of (append-nil language) ∙ pieces_of-whole language (no_mark is_small_letter dash language refl is.all)
legacy_pieces language (Some text) bytes is known =
    split_at-append dash language (codes "r" ++ text)
    ∙ rw (pieces_of-whole language (no_mark is_small_letter dash language refl is.all), pieces_of-whole (codes "r" ++ text) (no_mark is_region_letter dash text refl (region_letters text known.1))) refl

-- ---- tags

-- letters that a script and a variant have
abbrev pub is_script_letter : ℕ → Bool
is_script_letter byte = is_capital_letter byte || is_small_letter byte

pub script_letters : (s : List ℕ) → is_some (written_script s) ≡ true → (list_all is_script_letter s ≡ true) × (length s ≡ 4) × (is_capital_letter (slice_index s 0) ≡ true)
script_letters [] e = absurd cc
script_letters (a ∷ []) e = absurd cc
script_letters (a ∷ b ∷ []) e = absurd cc
script_letters (a ∷ b ∷ c ∷ []) e = absurd cc
script_letters (a ∷ b ∷ c ∷ d ∷ []) e = elim (cases_Bool (is_capital_letter a && is_small_letter b && is_small_letter c && is_small_letter d)) [
  | inl are ↦ (
      let three = and_parts (is_capital_letter a && is_small_letter b && is_small_letter c) (is_small_letter d) are in
      let two = and_parts (is_capital_letter a && is_small_letter b) (is_small_letter c) three.0 in
      let one = and_parts (is_capital_letter a) (is_small_letter b) two.0 in
      (rw (one.0, one.1, two.1, three.1, or-true, or-true, or-true) refl, refl, one.0)
      )
  | inr other ↦ absurd (let none = rw other at e in cc)
]
script_letters (a ∷ b ∷ c ∷ d ∷ x ∷ s) e = absurd cc

abbrev script_tags : List ℕ → List (List ℕ)
script_tags s = if is_zero s then [] else s ∷ []

abbrev variant_tags : List ℕ → List (List ℕ)
variant_tags v = if is_zero v then [] else variant_text v ∷ []

abbrev plus_each : List (List ℕ) → List ℕ
plus_each tags = flat_map (λ t. 43 ∷ t) tags

abbrev tags_of : Option (List ℕ) → List ℕ → List ℕ → List (List ℕ)
tags_of region s v = script_tags s ++ option_to_list region ++ variant_tags v

script_plus : (s : List ℕ) → script_behind s ≡ plus_each (script_tags s)
script_plus s = elim (cases_Bool (is_zero s)) [
  | inl none ↦ rw none refl
  | inr some ↦ rw (some, append-nil (43 ∷ s)) refl
]

variant_plus : (v : List ℕ) → variant_behind v ≡ plus_each (variant_tags v)
variant_plus v = elim (cases_Bool (is_zero v)) [
  | inl none ↦ rw none refl
  | inr some ↦ rw (some, append-nil (43 ∷ variant_text v)) refl
]

region_plus : (region : Option (List ℕ)) → behind_sign (codes "+") region ≡ plus_each (option_to_list region)
region_plus None = refl
region_plus (Some text) = sym (append-nil (43 ∷ text))

tag_plus : (language : List ℕ) (region : Option (List ℕ)) (s v : List ℕ) → tag_text language region s v ≡ (codes "b+" ++ language) ++ plus_each (tags_of region s v)
tag_plus language region s v =
    let front = codes "b+" ++ language in
    let plus : List ℕ → List ℕ = λ t. 43 ∷ t in
    let each =
    flat_map-append plus (script_tags s ++ option_to_list region) (variant_tags v)
    ∙ ap (λ (t : List ℕ). t ++ plus_each (variant_tags v)) (flat_map-append plus (script_tags s) (option_to_list region))
    ∙ append_assoc (plus_each (script_tags s)) (plus_each (option_to_list region)) (plus_each (variant_tags v)) in
    rw (script_plus s, variant_plus v, region_plus region)
    (append_assoc (front ++ plus_each (script_tags s)) (plus_each (option_to_list region)) (plus_each (variant_tags v))
    ∙ append_assoc front (plus_each (script_tags s)) (plus_each (option_to_list region) ++ plus_each (variant_tags v))
    ∙ ap (λ (t : List ℕ). front ++ t) (sym each))

abbrev no_plus : List ℕ → Bool
no_plus text = not (list_any (λ x. x == 43) text)

falsely : (b : Bool) → not b ≡ true → b ≡ false
falsely true e = absurd cc
falsely false e = refl

split_plus : (front : List ℕ) (tags : List (List ℕ)) → list_all no_plus tags ≡ true → split_at 43 (front ++ plus_each tags) ≡ split_at 43 front ++ tags
split_plus front [] all = ap (split_at 43) (append-nil front) ∙ sym (append-nil (split_at 43 front))
split_plus front (t ∷ tags) all =
    let both = and_parts (no_plus t) (list_all no_plus tags) all in
    split_at-append 43 front (t ++ plus_each tags)
    ∙ rw (split_plus t tags both.1, split_at-whole 43 t (falsely (list_any (λ x. x == 43) t) both.0)) refl

-- how tags differ: a region is short, and a script begins with a capital letter
abbrev tag_class : List ℕ → ℕ
tag_class text = if nat_le (length text) 3 then 0 else if is_capital_letter (slice_index text 0) then 1 else 2

-- what is known of the bytes of a script and of a variant
pub record IsOfBytes (count : ℕ) (bytes : List ℕ) : Type 0 where
  pub long : length bytes ≡ count
  pub fit : IsBytes bytes

-- what a tag says
pub record IsTagOf (l : Locale) (region : Option (List ℕ)) (s v : List ℕ) : Type 0 where
  pub of_region : RegionIs l.region region
  pub script : is_script s ≡ true
  pub variant : is_variant v ≡ true

second_of : (p q : Bool) → (p || q) ≡ true → p ≡ false → q ≡ true
second_of true q e none = absurd cc
second_of false q e none = e

variant_letters : (v : List ℕ) → is_written_variant v ≡ true → (4 ≤ length (variant_text v)) × (list_all is_variant_letter (variant_text v) ≡ true) × (are_zeros (cut_at 0 v).1 ≡ true)
variant_letters v written =
    let both = and_parts (nat_le 4 (length (variant_text v)) && list_all is_variant_letter (variant_text v)) (are_zeros (cut_at 0 v).1) written in
    let two = and_parts (nat_le 4 (length (variant_text v))) (list_all is_variant_letter (variant_text v)) both.0 in
    (leb-true 4 (length (variant_text v)) two.0, two.1, both.1)

-- a mark that no tag has is not in what it is made of
record IsNoLetter (mark : ℕ) : Type 0 where
  small : is_small_letter mark ≡ false
  capital : is_capital_letter mark ≡ false
  digit : is_digit mark ≡ false

no_script_mark : (mark : ℕ) (s : List ℕ) → IsNoLetter mark → is_script s ≡ true → list_all (λ t. not (list_any (λ x. x == mark) t)) (script_tags s) ≡ true
no_script_mark mark s other is = elim (cases_Bool (is_zero s)) [
  | inl none ↦ rw none refl
  | inr some ↦
      let letters = script_letters s (second_of (is_zero s) (is_some (written_script s)) is some) in
      rw (some, no_mark is_script_letter mark s (rw (other.capital, other.small) refl) letters.0) refl
]

no_variant_mark : (mark : ℕ) (v : List ℕ) → IsNoLetter mark → is_variant v ≡ true → list_all (λ t. not (list_any (λ x. x == mark) t)) (variant_tags v) ≡ true
no_variant_mark mark v other is = elim (cases_Bool (is_zero v)) [
  | inl none ↦ rw none refl
  | inr some ↦
      let letters = variant_letters v (second_of (is_zero v) (is_written_variant v) is some) in
      rw (some, no_mark is_variant_letter mark (variant_text v) (rw (other.small, other.digit) refl) letters.1) refl
]

no_region_mark : (mark : ℕ) (region : Option (List ℕ)) (bytes : List ℕ) → IsNoLetter mark → RegionIs bytes region → list_all (λ t. not (list_any (λ x. x == mark) t)) (option_to_list region) ≡ true
no_region_mark mark None bytes other is = refl
no_region_mark mark (Some text) bytes other is = rw (no_mark is_region_letter mark text (rw (other.capital, other.digit) refl) (region_letters text is.1)) refl

no_tag_mark : (mark : ℕ) (l : Locale) (region : Option (List ℕ)) (s v : List ℕ) → IsNoLetter mark → IsTagOf l region s v → list_all (λ t. not (list_any (λ x. x == mark) t)) (tags_of region s v) ≡ true
no_tag_mark mark l region s v other is =
    list_all-append (λ t. not (list_any (λ x. x == mark) t)) (script_tags s ++ option_to_list region) (variant_tags v)
    ∙ rw (list_all-append (λ t. not (list_any (λ x. x == mark) t)) (script_tags s) (option_to_list region), no_script_mark mark s other is.script, no_region_mark mark region l.region other is.of_region, no_variant_mark mark v other is.variant) refl

plus_each-none : (mark : ℕ) (tags : List (List ℕ)) → (43 == mark) ≡ false → list_all (λ t. not (list_any (λ x. x == mark) t)) tags ≡ true → none_of mark (plus_each tags)
plus_each-none mark [] other all = refl
plus_each-none mark (t ∷ tags) other all =
    let both = and_parts (not (list_any (λ x. x == mark) t)) (list_all (λ t. not (list_any (λ x. x == mark) t)) tags) all in
    rw other (list_any-append (λ x. x == mark) t (plus_each tags) ∙ rw (falsely (list_any (λ x. x == mark) t) both.0, plus_each-none mark tags other both.1) refl)

-- ---- tags are told apart

script_class : (s : List ℕ) → is_script s ≡ true → all_are tag_class 1 (script_tags s)
script_class s is = elim (cases_Bool (is_zero s)) [
  | inl none ↦ rw none refl
  | inr some ↦
      let letters = script_letters s (second_of (is_zero s) (is_some (written_script s)) is some) in
      rw (some, letters.1, letters.2) refl
]

region_class : (region : Option (List ℕ)) (bytes : List ℕ) → RegionIs bytes region → all_are tag_class 0 (option_to_list region)
region_class None bytes is = refl
region_class (Some text) bytes is = rw (le-leb (length text) 3 (by is.1)) refl
  where
    by : IsRegion text → length text ≤ 3
    by (inl capitals) = capitals.few
    by (inr digits) = digits.few

variant_is_no_capital : (x : ℕ) → is_variant_letter x ≡ true → is_capital_letter x ≡ false
variant_is_no_capital x letter = elim (cases_Bool (is_capital_letter x)) [
  | inl capital ↦ absurd (
      let upper = and_parts (nat_le 65 x) (nat_le x 90) capital in
      elim (cases_Bool (is_small_letter x)) [
        | inl small ↦ (let lower = and_parts (nat_le first_letter x) (nat_le x 122) small in omega (arith, leb-true x 90 upper.1, leb-true first_letter x lower.0))
        | inr other ↦ (
            let digit = and_parts (nat_le first_digit x) (nat_le x 57) (second_of (is_small_letter x) (is_digit x) letter other) in
            omega (arith, leb-true 65 x upper.0, leb-true x 57 digit.1)
            )
      ]
      )
  | inr none ↦ none
]

class_of_variant : (text : List ℕ) → 4 ≤ length text → list_all is_variant_letter text ≡ true → tag_class text ≡ 2
class_of_variant [] many all = absurd (omega (arith, many))
class_of_variant (a ∷ text) many all =
    let both = and_parts (is_variant_letter a) (list_all is_variant_letter text) all in
    elim (cases_Bool (nat_le (length (a ∷ text)) 3)) [
      | inl short ↦ absurd (omega (arith, many, leb-true (length (a ∷ text)) 3 short))
      | inr long ↦ rw (long, variant_is_no_capital a both.0) refl
    ]

variant_class : (v : List ℕ) → is_variant v ≡ true → all_are tag_class 2 (variant_tags v)
variant_class v is = elim (cases_Bool (is_zero v)) [
  | inl none ↦ rw none refl
  | inr some ↦
      let letters = variant_letters v (second_of (is_zero v) (is_written_variant v) is some) in
      rw (some, class_of_variant (variant_text v) letters.0 letters.1) refl
]

tags_classes : (l : Locale) (region : Option (List ℕ)) (s v : List ℕ) → IsTagOf l region s v → Three tag_class 1 0 2 (script_tags s) (option_to_list region) (variant_tags v)
tags_classes l region s v is = record { one = script_class s is.script; two = region_class region l.region is.of_region; three = variant_class v is.variant }

tag_cut : (l : Locale) (language : List ℕ) (region : Option (List ℕ)) (s v : List ℕ) → IsText is_small_letter language → IsTagOf l region s v
    → split_at 43 (tag_text language region s v) ≡ codes "b" ∷ language ∷ tags_of region s v
tag_cut l language region s v is tag =
    let front : split_at 43 (codes "b+" ++ language) ≡ codes "b" ∷ language ∷ [] =
    split_at-append 43 (codes "b") language ∙ rw (split_at-whole 43 language (no_mark is_small_letter 43 language refl is.all)) refl in
    ap (split_at 43) (tag_plus language region s v)
    ∙ split_plus (codes "b+" ++ language) (tags_of region s v) (no_tag_mark 43 l region s v (record { small = refl; capital = refl; digit = refl }) tag)
    ∙ ap (λ (ts : List (List ℕ)). ts ++ tags_of region s v) front

-- a mark that stands in no tag stands in none of its text
tag_none : (mark : ℕ) (l : Locale) (language : List ℕ) (region : Option (List ℕ)) (s v : List ℕ) → IsNoLetter mark → (43 == mark) ≡ false → (98 == mark) ≡ false
    → IsText is_small_letter language → IsTagOf l region s v → none_of mark (tag_text language region s v)
tag_none mark l language region s v other no_plus_sign no_b is tag =
    ap (λ (t : List ℕ). list_any (λ x. x == mark) t) (tag_plus language region s v)
    ∙ list_any-append (λ x. x == mark) (codes "b+" ++ language) (plus_each (tags_of region s v))
    ∙ rw (no_b, no_plus_sign, no_mark is_small_letter mark language other.small is.all, plus_each-none mark (tags_of region s v) no_plus_sign (no_tag_mark mark l region s v other tag)) refl

-- ---- what tags determine

zeros-same : (xs ys : List ℕ) → length xs ≡ length ys → is_zero xs ≡ true → is_zero ys ≡ true → xs ≡ ys
zeros-same [] [] e p q = refl
zeros-same [] (y ∷ ys) e p q = absurd (omega (arith, e))
zeros-same (x ∷ xs) [] e p q = absurd (omega (arith, e))
zeros-same (x ∷ xs) (y ∷ ys) e p q =
    let first = and_parts (x == 0) (is_zero xs) p in
    let second = and_parts (y == 0) (is_zero ys) q in
    rw (eqb-true x 0 first.0, eqb-true y 0 second.0, zeros-same xs ys (omega (arith, e)) first.1 second.1) refl

script_tags-same : (s t : List ℕ) → length s ≡ length t → script_tags s ≡ script_tags t → s ≡ t
script_tags-same s t long e = elim (cases_Bool (is_zero s)) [
  | inl none ↦ elim (cases_Bool (is_zero t)) [
    | inl also ↦ zeros-same s t long none also
    | inr some ↦ absurd (let other = rw (none, some) at e in cc)
  ]
  | inr some ↦ elim (cases_Bool (is_zero t)) [
    | inl none ↦ absurd (let other = rw (some, none) at e in cc)
    | inr also ↦ (let same = rw (some, also) at e in cc)
  ]
]

no_text : (x : ℕ) (v : List ℕ) → (x == 0) ≡ true → variant_text (x ∷ v) ≡ []
no_text x v zeros = ap (λ (y : ℕ). variant_text (y ∷ v)) (eqb-true x 0 zeros) ∙ ap (λ (c : List ℕ × Option (List ℕ)). c.0) (cut_at-here 0 v)

some_text : (x : ℕ) (v : List ℕ) → (x == 0) ≡ false → variant_text (x ∷ v) ≡ x ∷ variant_text v
some_text x v other = ap (λ (c : List ℕ × Option (List ℕ)). c.0) (cut_at-next 0 x v other)

-- what stands before the zeros, and how many there are
padded : (v w : List ℕ) → length v ≡ length w → variant_text v ≡ variant_text w → are_zeros (cut_at 0 v).1 ≡ true → are_zeros (cut_at 0 w).1 ≡ true → v ≡ w
padded [] [] long same p q = refl
padded [] (y ∷ w) long same p q = absurd (omega (arith, long))
padded (x ∷ v) [] long same p q = absurd (omega (arith, long))
padded (x ∷ v) (y ∷ w) long same p q = elim (cases_Bool (x == 0)) [
  | inl none ↦ elim (cases_Bool (y == 0)) [
    | inl also ↦ (
        let first = rw (eqb-true x 0 none, cut_at-here 0 v) at p in
        let second = rw (eqb-true y 0 also, cut_at-here 0 w) at q in
        rw (eqb-true x 0 none, eqb-true y 0 also, zeros-same v w (omega (arith, long)) first second) refl
        )
    | inr some ↦ absurd (let other = sym (no_text x v none) ∙ same ∙ some_text y w some in cc)
  ]
  | inr some ↦ elim (cases_Bool (y == 0)) [
    | inl none ↦ absurd (let other = sym (no_text y w none) ∙ sym same ∙ some_text x v some in cc)
    | inr also ↦ (
        let texts = sym (some_text x v some) ∙ same ∙ some_text y w also in
        let bytes : x ≡ y = cc in
        let others : variant_text v ≡ variant_text w = cc in
        let behind = padded v w (omega (arith, long)) others (rw (cut_at-next 0 x v some) at p) (rw (cut_at-next 0 y w also) at q) in
        rw (bytes, behind) refl
        )
  ]
]

no_tag : (tag : List ℕ) → ◌≡◌ {A = List (List ℕ)} [] (tag ∷ []) → ⊥
no_tag tag same = cc

one_tag : (tag other : List ℕ) → ◌≡◌ {A = List (List ℕ)} (tag ∷ []) (other ∷ []) → tag ≡ other
one_tag tag other same = cc

variant_tags-same : (v w : List ℕ) → length v ≡ length w → is_variant v ≡ true → is_variant w ≡ true → variant_tags v ≡ variant_tags w → v ≡ w
variant_tags-same v w long p q e = elim (cases_Bool (is_zero v)) [
  | inl none ↦ elim (cases_Bool (is_zero w)) [
    | inl also ↦ zeros-same v w long none also
    | inr some ↦ absurd (no_tag (variant_text w) (rw (none, some) at e))
  ]
  | inr some ↦ elim (cases_Bool (is_zero w)) [
    | inl none ↦ absurd (no_tag (variant_text v) (sym (rw (some, none) at e)))
    | inr also ↦ (
        let texts = one_tag (variant_text v) (variant_text w) (rw (some, also) at e) in
        let first = variant_letters v (second_of (is_zero v) (is_written_variant v) p some) in
        let second = variant_letters w (second_of (is_zero w) (is_written_variant w) q also) in
        padded v w long texts first.2 second.2
        )
  ]
]

region-text_same : (bytes others : List ℕ) (a b c d : ℕ) → AreBytes a b c d → bytes ≡ a ∷ b ∷ [] → others ≡ c ∷ d ∷ [] → (region : Option (List ℕ)) → RegionIs bytes region → RegionIs others region → bytes ≡ others
region-text_same bytes others a b c d are p q None is also = zeros-same bytes others (ap (λ (t : List ℕ). length t) p ∙ ap (λ (t : List ℕ). length t) (sym q)) is also
region-text_same bytes others a b c d are p q (Some text) is also =
    p ∙ unpacked-same first_digit a b c d are.first are.second are.third are.fourth (ap (unpacked first_digit) (sym p) ∙ is.0 ∙ sym also.0 ∙ ap (unpacked first_digit) q) ∙ sym q

-- two locales that the same letters say are one
said-same : (a b c d e f g h : ℕ) → AreBytes a b c d → AreBytes e f g h → (language : List ℕ) (region : Option (List ℕ))
    → IsSaidBy (locale_of_bytes a b c d) (language, region) → IsSaidBy (locale_of_bytes e f g h) (language, region) → locale_of_bytes a b c d ≡ locale_of_bytes e f g h
said-same a b c d e f g h p q language region is also =
    let languages = unpacked-same first_letter a b e f p.first p.second q.first q.second (is.language ∙ sym also.language) in
    let regions =
    region-text_same (c ∷ d ∷ []) (g ∷ h ∷ []) c d g h (record { first = p.third; second = p.fourth; third = q.third; fourth = q.fourth }) refl refl
    region
    is.region also.region in
    cc

-- ---- what is named

named : (name value : List ℕ) → list_any is_equals (qualifier name value) ≡ true
named name value = list_any-append is_equals (name ++ codes "=") value ∙ rw (list_any-append is_equals name (codes "="), or-true) refl

locale_pieces : Locale → List (List ℕ)
locale_pieces l = flat_map pieces_of (locale_qualifier l)

bytes_pieces : List ℕ → List ℕ → List (List ℕ)
bytes_pieces name bytes = flat_map pieces_of (bytes_qualifier name bytes)

named_apart : (l : Locale) (s v : List ℕ) → flat_map pieces_of (named_parts l s v) ≡ locale_pieces l ++ bytes_pieces (codes "script") s ++ bytes_pieces (codes "variant") v
unfolding locale_pieces bytes_pieces
named_apart l s v =
    flat_map-append pieces_of (locale_qualifier l ++ bytes_qualifier (codes "script") s) (bytes_qualifier (codes "variant") v)
    ∙ ap (λ (ps : List (List ℕ)). ps ++ flat_map pieces_of (bytes_qualifier (codes "variant") v)) (flat_map-append pieces_of (locale_qualifier l) (bytes_qualifier (codes "script") s))

-- each piece of a text
each_piece : (p : List ℕ → Bool) (text : List ℕ) → list_all p (pieces_of text) ≡ true → list_all p (flat_map pieces_of (text ∷ [])) ≡ true
each_piece p text all = ap (λ (ps : List (List ℕ)). list_all p ps) (append-nil (pieces_of text)) ∙ all

script_kind : (hex : List ℕ) → kind_of (qualifier (codes "script") hex) ≡ of_script
unfolding kind_of kind_named all_coords name_of
script_kind hex = refl

variant_kind : (hex : List ℕ) → kind_of (qualifier (codes "variant") hex) ≡ of_variant
unfolding kind_of kind_named all_coords name_of
variant_kind hex = refl

locale_kind : (text : List ℕ) → kind_of (codes "locale=" ++ text) ≡ of_locale
unfolding kind_of kind_named all_coords name_of place_of
locale_kind text = refl

bytes_one : (name bytes : List ℕ) → none_of dash name → IsBytes bytes → is_zero bytes ≡ false → bytes_pieces name bytes ≡ qualifier name (encode_lower bytes) ∷ []
unfolding bytes_pieces bytes_qualifier
bytes_one name bytes none fit some =
    rw some (append-nil (pieces_of (qualifier name (encode_lower bytes)))
    ∙ pieces_of-whole (qualifier name (encode_lower bytes)) (
    list_any-append is_dash (name ++ codes "=") (encode_lower bytes)
    ∙ rw (list_any-append is_dash name (codes "="), none, no_mark is_hex_digit dash (encode_lower bytes) refl (hex-all bytes fit)) refl
    ))

bytes_none : (name bytes : List ℕ) → is_zero bytes ≡ true → bytes_pieces name bytes ≡ []
unfolding bytes_pieces bytes_qualifier
bytes_none name bytes none = rw none refl

bytes_all : (name bytes : List ℕ) (kind : ℕ) → none_of dash name → ((hex : List ℕ) → kind_of (qualifier name hex) ≡ kind) → IsBytes bytes → all_are kind_of kind (bytes_pieces name bytes)
bytes_all name bytes kind none of_kind fit = elim (cases_Bool (is_zero bytes)) [
  | inl zeros ↦ rw (bytes_none name bytes zeros) refl
  | inr some ↦ rw (bytes_one name bytes none fit some, of_kind (encode_lower bytes), eq-eqb kind kind refl) refl
]

-- ---- a named locale

spelled_pieces : (a b c d : ℕ) → is_spelled (locale_of_bytes a b c d) ≡ true → all_are kind_of of_locale (pieces_of (codes "locale=" ++ locale_text (locale_of_bytes a b c d)))
spelled_pieces a b c d spelled =
    let letters = spelled_of (locale_of_bytes a b c d) spelled in
    let front = codes "locale=" ++ language_text (a ∷ b ∷ []) in
    let whole : pieces_of front ≡ front ∷ [] = pieces_of-whole front (no_dash_in (a ∷ b ∷ []) (c ∷ d ∷ []) letters) in
    rw (spelled-text a b c d spelled)
    (elim (cases_Bool (is_zero (c ∷ d ∷ []))) [
      | inl none ↦ rw (none, append-nil (language_text (a ∷ b ∷ [])), whole, locale_kind (language_text (a ∷ b ∷ []))) refl
      | inr some ↦
          let region = letters.region_letters some in
          let text = unpacked first_digit (c ∷ d ∷ []) in
          let cut : pieces_of (front ++ dash ∷ text) ≡ front ∷ text ∷ [] =
          split_at-append dash front text ∙ rw (whole, pieces_of-whole text (no_mark is_region_letter dash text refl (region_letters text region))) refl in
          rw some (subst (λ (ps : List (List ℕ)). all_are kind_of of_locale ps) (sym cut) (rw (locale_kind (language_text (a ∷ b ∷ [])), region_kind [] text nothing_before region) refl))
    ])

digits_pieces : (a b c d : ℕ) → AreBytes a b c d → is_spelled (locale_of_bytes a b c d) ≡ false → all_are kind_of of_locale (pieces_of (codes "locale=" ++ locale_text (locale_of_bytes a b c d)))
digits_pieces a b c d is other =
    rw (unspelled a b c d other, pieces_of-whole (codes "locale=" ++ digits_text a b c d) (no_dash_in_digits a b c d is), locale_kind (digits_text a b c d)) refl

abbrev no_locale : ℕ → ℕ → ℕ → ℕ → Bool
no_locale a b c d = is_zero (a ∷ b ∷ []) && is_zero (c ∷ d ∷ [])

named_text : (l : Locale) → qualifier (name_of coords.Locale) (locale_text l) ≡ codes "locale=" ++ locale_text l
unfolding name_of
named_text l = refl

none_named : (a b c d : ℕ) → no_locale a b c d ≡ true → locale_pieces (locale_of_bytes a b c d) ≡ []
unfolding locale_pieces locale_qualifier
none_named a b c d none = rw none refl

one_named : (a b c d : ℕ) → no_locale a b c d ≡ false → locale_pieces (locale_of_bytes a b c d) ≡ pieces_of (codes "locale=" ++ locale_text (locale_of_bytes a b c d))
unfolding locale_pieces locale_qualifier
one_named a b c d some = rw some (append-nil (pieces_of (qualifier (name_of coords.Locale) (locale_text (locale_of_bytes a b c d)))) ∙ ap pieces_of (named_text (locale_of_bytes a b c d)))

locale_all : (a b c d : ℕ) → AreBytes a b c d → all_are kind_of of_locale (locale_pieces (locale_of_bytes a b c d))
locale_all a b c d is = elim (cases_Bool (no_locale a b c d)) [
  | inl none ↦ rw (none_named a b c d none) refl
  | inr some ↦ rw (one_named a b c d some) (elim (cases_Bool (is_spelled (locale_of_bytes a b c d))) [
    | inl spelled ↦ spelled_pieces a b c d spelled
    | inr digits ↦ digits_pieces a b c d is digits
  ])
]

append-same : (front xs ys : List ℕ) → front ++ xs ≡ front ++ ys → xs ≡ ys
append-same [] xs ys same = same
append-same (x ∷ front) xs ys same = append-same front xs ys cc

-- the pieces of a text determine it
joined-same : (xs ys : List ℕ) → pieces_of xs ≡ pieces_of ys → xs ≡ ys
joined-same xs ys same = sym (join_with_byte-slice_split dash xs) ∙ ap (join_with_byte dash) same ∙ join_with_byte-slice_split dash ys

named_is : (text : List ℕ) → list_any (list_any is_equals) (pieces_of (codes "locale=" ++ text)) ≡ true
named_is text = any-pieces is_equals (codes "locale=" ++ text) refl

locale-same : (a b c d e f g h : ℕ) → AreBytes a b c d → AreBytes e f g h → locale_pieces (locale_of_bytes a b c d) ≡ locale_pieces (locale_of_bytes e f g h) → locale_of_bytes a b c d ≡ locale_of_bytes e f g h
locale-same a b c d e f g h p q same = elim (cases_Bool (no_locale a b c d)) [
  | inl none ↦ elim (cases_Bool (no_locale e f g h)) [
    | inl also ↦ (
        let first = and_parts (is_zero (a ∷ b ∷ [])) (is_zero (c ∷ d ∷ [])) none in
        let second = and_parts (is_zero (e ∷ f ∷ [])) (is_zero (g ∷ h ∷ [])) also in
        let languages = zeros-same (a ∷ b ∷ []) (e ∷ f ∷ []) refl first.0 second.0 in
        let regions = zeros-same (c ∷ d ∷ []) (g ∷ h ∷ []) refl first.1 second.1 in
        cc
        )
    | inr some ↦ absurd (let other = sym (named_is (locale_text (locale_of_bytes e f g h))) ∙ ap (list_any (list_any is_equals)) (sym (one_named e f g h some) ∙ sym same ∙ none_named a b c d none) in cc)
  ]
  | inr some ↦ elim (cases_Bool (no_locale e f g h)) [
    | inl none ↦ absurd (let other = sym (named_is (locale_text (locale_of_bytes a b c d))) ∙ ap (list_any (list_any is_equals)) (sym (one_named a b c d some) ∙ same ∙ none_named e f g h none) in cc)
    | inr also ↦ (
        let one = locale_text (locale_of_bytes a b c d) in
        let other = locale_text (locale_of_bytes e f g h) in
        let texts = joined-same (codes "locale=" ++ one) (codes "locale=" ++ other) (sym (one_named a b c d some) ∙ same ∙ one_named e f g h also) in
        text-same a b c d e f g h p q (append-same (codes "locale=") one other texts)
        )
  ]
]

bytes-same : (name s t : List ℕ) (count : ℕ) → none_of dash name → IsOfBytes count s → IsOfBytes count t → bytes_pieces name s ≡ bytes_pieces name t → s ≡ t
bytes-same name s t count none p q same = elim (cases_Bool (is_zero s)) [
  | inl zeros ↦ elim (cases_Bool (is_zero t)) [
    | inl also ↦ zeros-same s t (p.long ∙ sym q.long) zeros also
    | inr some ↦ absurd (let other = sym (bytes_none name s zeros) ∙ same ∙ bytes_one name t none q.fit some in cc)
  ]
  | inr some ↦ elim (cases_Bool (is_zero t)) [
    | inl zeros ↦ absurd (let other = sym (bytes_none name t zeros) ∙ sym same ∙ bytes_one name s none p.fit some in cc)
    | inr also ↦ (
        let pieces = sym (bytes_one name s none p.fit some) ∙ same ∙ bytes_one name t none q.fit also in
        let texts : qualifier name (encode_lower s) ≡ qualifier name (encode_lower t) = cc in
        hex-same s t p.fit q.fit (append-same (name ++ codes "=") (encode_lower s) (encode_lower t) texts)
        )
  ]
]

-- ---- the three ways in which a locale is written

-- the pieces of a locale with a script and a variant
unfoldable pub all_pieces : Locale → List ℕ → List ℕ → List (List ℕ)
all_pieces l s v = flat_map pieces_of (locale_parts l s v)

data Form (l : Locale) (s v : List ℕ) (pieces : List (List ℕ)) : Type 0 where
  legacy : (language : List ℕ) (region : Option (List ℕ)) → IsSaidBy l (language, region) → is_other_word language ≡ false → is_zero s ≡ true → is_zero v ≡ true
      → pieces ≡ language ∷ region_pieces region → Form l s v pieces
  tag : (language : List ℕ) (region : Option (List ℕ)) → IsSaidBy l (language, region) → IsTagOf l region s v → pieces ≡ tag_text language region s v ∷ [] → Form l s v pieces
  by_name : pieces ≡ locale_pieces l ++ bytes_pieces (codes "script") s ++ bytes_pieces (codes "variant") v → Form l s v pieces

in_letters : (l : Locale) (s v : List ℕ) (language : List ℕ) (region : Option (List ℕ)) → IsSaidBy l (language, region) → IsTagOf l region s v
    → Form l s v (flat_map pieces_of (letters_text language region s v ∷ []))
unfolding letters_text
in_letters l s v language region said is = elim (cases_Bool (is_zero s && is_zero v && not (is_other_word language))) [
  | inl plain ↦ rw plain (
      let both = and_parts (is_zero s && is_zero v) (not (is_other_word language)) plain in
      let zeros = and_parts (is_zero s) (is_zero v) both.0 in
      legacy language region said (falsely (is_other_word language) both.1) zeros.0 zeros.1
      (append-nil (pieces_of (language ++ behind_sign (codes "-r") region)) ∙ legacy_pieces language region l.region said.letters said.region)
      )
  | inr other ↦ rw other (
      let text = tag_text language region s v in
      tag language region said is
      (append-nil (pieces_of text) ∙ pieces_of-whole text (tag_none dash l language region s v (record { small = refl; capital = refl; digit = refl }) refl refl said.letters is))
      )
]

form_of : (a b c d : ℕ) → AreBytes a b c d → (s v : List ℕ) → Form (locale_of_bytes a b c d) s v (all_pieces (locale_of_bytes a b c d) s v)
unfolding all_pieces locale_parts
form_of a b c d is s v =
    let l = locale_of_bytes a b c d in
    let texts = cut_at dash (locale_text l) in
    elim (cases_Bool (are_letters texts.0 s v)) [
      | inl letters ↦ rw letters (
          let both = and_parts (is_language texts.0 && is_script s) (is_variant v) letters in
          let two = and_parts (is_language texts.0) (is_script s) both.0 in
          let said = said_by a b c d is two.0 in
          in_letters l s v texts.0 texts.1 said (record { of_region = said.region; script = two.1; variant = both.1 })
          )
      | inr other ↦ rw other (by_name (named_apart l s v))
    ]

tag_of_locale : (l : Locale) (language : List ℕ) (region : Option (List ℕ)) (s v : List ℕ) → IsText is_small_letter language → IsTagOf l region s v → kind_of (tag_text language region s v) ≡ of_locale
tag_of_locale l language region s v is known =
    let each = plus_each (tags_of region s v) in
    let none : (mark : ℕ) → IsNoLetter mark → (43 == mark) ≡ false → none_of mark (language ++ each) =
    λ mark other apart. neither (λ x. x == mark) language each (no_mark is_small_letter mark language other.small is.all) (plus_each-none mark (tags_of region s v) apart (no_tag_mark mark l region s v other known)) in
    let text : tag_text language region s v ≡ codes "b+" ++ (language ++ each) = tag_plus language region s v ∙ append_assoc (codes "b+") language each in
    ap kind_of text
    ∙ tag_kind (language ++ each) (none 61 (record { small = refl; capital = refl; digit = refl }) refl) (none 40 (record { small = refl; capital = refl; digit = refl }) refl)

owned : (kind : ℕ) (pieces : List (List ℕ)) → owner kind ≡ of_locale → all_are kind_of kind pieces → list_all (is_of of_locale) pieces ≡ true
owned kind pieces own all = widened (λ t. kind_of t == kind) (is_of of_locale) pieces (λ t is. rw (eqb-true (kind_of t) kind is, own) refl) all

region_all : (region : Option (List ℕ)) (bytes : List ℕ) → RegionIs bytes region → all_are kind_of of_locale (region_pieces region)
region_all None bytes is = refl
region_all (Some text) bytes is = rw (region_kind (codes "r") text before_r is.1) refl

form_all : (a b c d : ℕ) (s v : List ℕ) (pieces : List (List ℕ)) → AreBytes a b c d → IsOfBytes 4 s → IsOfBytes 8 v → Form (locale_of_bytes a b c d) s v pieces → list_all (is_of of_locale) pieces ≡ true
form_all a b c d s v pieces is p q (legacy language region said other zeros also same) =
    rw same (owned of_locale (language ∷ region_pieces region) refl
    (rw (language_kind language said.letters other) (region_all region (c ∷ d ∷ []) said.region)))
form_all a b c d s v pieces is p q (tag language region said tags same) =
    rw same (owned of_locale (tag_text language region s v ∷ []) refl (rw (tag_of_locale (locale_of_bytes a b c d) language region s v said.letters tags) refl))
form_all a b c d s v pieces is p q (by_name same) =
    rw same (
    list_all-append (is_of of_locale) (locale_pieces (locale_of_bytes a b c d) ++ bytes_pieces (codes "script") s) (bytes_pieces (codes "variant") v)
    ∙ rw (
      list_all-append (is_of of_locale) (locale_pieces (locale_of_bytes a b c d)) (bytes_pieces (codes "script") s),
      owned of_locale (locale_pieces (locale_of_bytes a b c d)) refl (locale_all a b c d is),
      owned of_script (bytes_pieces (codes "script") s) refl (bytes_all (codes "script") s of_script refl script_kind p.fit),
      owned of_variant (bytes_pieces (codes "variant") v) refl (bytes_all (codes "variant") v of_variant refl variant_kind q.fit),
    ) refl
    )

pub locale-all : (a b c d : ℕ) (s v : List ℕ) → AreBytes a b c d → IsOfBytes 4 s → IsOfBytes 8 v → list_all (is_of of_locale) (all_pieces (locale_of_bytes a b c d) s v) ≡ true
locale-all a b c d s v is p q = form_all a b c d s v (all_pieces (locale_of_bytes a b c d) s v) is p q (form_of a b c d is s v)

-- ---- the pieces tell the way

abbrev is_plus : ℕ → Bool
is_plus byte = byte == 43

abbrev is_nothing : List (List ℕ) → Bool
is_nothing [] = true
is_nothing (piece ∷ pieces) = false

abbrev way_of : List (List ℕ) → ℕ
way_of pieces = if list_any (list_any is_equals) pieces then 2 else if list_any (list_any is_plus) pieces then 1 else if is_nothing pieces then 2 else 0

region_way : (mark : ℕ) (region : Option (List ℕ)) (bytes : List ℕ) → (114 == mark) ≡ false → is_region_letter mark ≡ false → RegionIs bytes region → list_any (list_any (λ x. x == mark)) (region_pieces region) ≡ false
region_way mark None bytes no_r other is = refl
region_way mark (Some text) bytes no_r other is = rw (no_r, no_mark is_region_letter mark text other (region_letters text is.1)) refl

legacy_way : (l : Locale) (language : List ℕ) (region : Option (List ℕ)) → IsSaidBy l (language, region) → way_of (language ∷ region_pieces region) ≡ 0
legacy_way l language region said =
    rw (
      no_mark is_small_letter 61 language refl said.letters.all,
      no_mark is_small_letter 43 language refl said.letters.all,
      region_way 61 region l.region refl refl said.region,
      region_way 43 region l.region refl refl said.region,
    ) refl

tag_way : (l : Locale) (language : List ℕ) (region : Option (List ℕ)) (s v : List ℕ) → IsSaidBy l (language, region) → IsTagOf l region s v → way_of (tag_text language region s v ∷ []) ≡ 1
tag_way l language region s v said tags =
    rw (tag_none 61 l language region s v (record { small = refl; capital = refl; digit = refl }) refl refl said.letters tags) refl

any-flat : (p : ℕ → Bool) (parts : List (List ℕ)) → p dash ≡ false → list_any (list_any p) (flat_map pieces_of parts) ≡ list_any (list_any p) parts
any-flat p [] other = refl
any-flat p (t ∷ parts) other =
    list_any-append (list_any p) (pieces_of t) (flat_map pieces_of parts) ∙ rw (any-pieces p t other, any-flat p parts other) refl

-- nothing, or something that is named
abbrev IsNamed : List (List ℕ) → Type 0
IsNamed parts = (parts ≡ []) ⊎ (list_any (list_any is_equals) parts ≡ true)

IsNamed-append : (xs ys : List (List ℕ)) → IsNamed xs → IsNamed ys → IsNamed (xs ++ ys)
IsNamed-append xs ys (inl none) other = rw none other
IsNamed-append xs ys (inr some) other = inr (list_any-append (list_any is_equals) xs ys ∙ rw some refl)

bytes_named : (name bytes : List ℕ) → IsNamed (bytes_qualifier name bytes)
unfolding bytes_qualifier
bytes_named name bytes = elim (cases_Bool (is_zero bytes)) [
  | inl none ↦ rw none (inl refl)
  | inr some ↦ rw some (inr (rw (named name (encode_lower bytes)) refl))
]

locale_named : (l : Locale) → IsNamed (locale_qualifier l)
unfolding locale_qualifier
locale_named l = elim (cases_Bool (is_zero l.language && is_zero l.region)) [
  | inl none ↦ rw none (inl refl)
  | inr some ↦ rw some (inr (rw (named (name_of coords.Locale) (locale_text l)) refl))
]

way_of-named : (parts : List (List ℕ)) → IsNamed parts → way_of (flat_map pieces_of parts) ≡ 2
way_of-named parts (inl none) = rw none refl
way_of-named parts (inr some) = rw (any-flat is_equals parts refl, some) refl

named_parts_way : (l : Locale) (s v : List ℕ) → way_of (flat_map pieces_of (named_parts l s v)) ≡ 2
named_parts_way l s v =
    way_of-named (named_parts l s v)
    (IsNamed-append (locale_qualifier l ++ bytes_qualifier (codes "script") s) (bytes_qualifier (codes "variant") v)
    (IsNamed-append (locale_qualifier l) (bytes_qualifier (codes "script") s) (locale_named l) (bytes_named (codes "script") s)) (bytes_named (codes "variant") v))

abbrev way : {l : Locale} {s v : List ℕ} {pieces : List (List ℕ)} → Form l s v pieces → ℕ
way (legacy language region said other no_s no_v same) = 0
way (tag language region said known same) = 1
way (by_name same) = 2

told_way : (l : Locale) (s v : List ℕ) (pieces : List (List ℕ)) (form : Form l s v pieces) → way_of pieces ≡ way form
told_way l s v pieces (legacy language region said other no_s no_v same) = rw same (legacy_way l language region said)
told_way l s v pieces (tag language region said known same) = rw same (tag_way l language region s v said known)
told_way l s v pieces (by_name same) = rw (same, ← named_apart l s v) (named_parts_way l s v)

-- ---- they determine the locale, the script and the variant

pub record SameLocale (l k : Locale) (s t v w : List ℕ) : Type 0 where
  pub locale : l ≡ k
  pub script : s ≡ t
  pub variant : v ≡ w

kinds_of : (a b c d : ℕ) (s v : List ℕ) → AreBytes a b c d → IsOfBytes 4 s → IsOfBytes 8 v
    → Three kind_of of_locale of_script of_variant (locale_pieces (locale_of_bytes a b c d)) (bytes_pieces (codes "script") s) (bytes_pieces (codes "variant") v)
kinds_of a b c d s v is p q =
    record {
      one = locale_all a b c d is;
      two = bytes_all (codes "script") s of_script refl script_kind p.fit;
      three = bytes_all (codes "variant") v of_variant refl variant_kind q.fit;
    }

region_pieces-same : (one other : Option (List ℕ)) → region_pieces one ≡ region_pieces other → one ≡ other
region_pieces-same None None same = refl
region_pieces-same None (Some text) same = absurd cc
region_pieces-same (Some text) None same = absurd cc
region_pieces-same (Some text) (Some other) same =
    let texts : codes "r" ++ text ≡ codes "r" ++ other = cc in
    let letters : text ≡ other = cc in
    cc

option_to_list-same : (one other : Option (List ℕ)) → option_to_list one ≡ option_to_list other → one ≡ other
option_to_list-same None None same = refl
option_to_list-same None (Some text) same = absurd cc
option_to_list-same (Some text) None same = absurd cc
option_to_list-same (Some text) (Some other) same = let texts : text ≡ other = cc in cc

said-by_same : (a b c d e f g h : ℕ) → AreBytes a b c d → AreBytes e f g h → (one other : List ℕ) (region place : Option (List ℕ)) → one ≡ other → region ≡ place
    → IsSaidBy (locale_of_bytes a b c d) (one, region) → IsSaidBy (locale_of_bytes e f g h) (other, place) → locale_of_bytes a b c d ≡ locale_of_bytes e f g h
said-by_same a b c d e f g h p q one other region place languages regions said also =
    said-same a b c d e f g h p q other place (rw (languages, regions) at said) also

forms-same : (a b c d e f g h : ℕ) (s v t w : List ℕ) (pieces : List (List ℕ)) → AreBytes a b c d → AreBytes e f g h → IsOfBytes 4 s → IsOfBytes 8 v → IsOfBytes 4 t → IsOfBytes 8 w
    → Form (locale_of_bytes a b c d) s v pieces → Form (locale_of_bytes e f g h) t w pieces
    → SameLocale (locale_of_bytes a b c d) (locale_of_bytes e f g h) s t v w
forms-same a b c d e f g h s v t w pieces p q ps pv pt pw (legacy one region said other no_s no_v same) (legacy two place also another no_t no_w equal) =
    let pieces_are = sym same ∙ equal in
    let languages : one ≡ two = cc in
    let regions : region_pieces region ≡ region_pieces place = cc in
    record {
      locale = said-by_same a b c d e f g h p q one two region place languages (region_pieces-same region place regions) said also;
      script = zeros-same s t (ps.long ∙ sym pt.long) no_s no_t;
      variant = zeros-same v w (pv.long ∙ sym pw.long) no_v no_w;
    }
forms-same a b c d e f g h s v t w pieces p q ps pv pt pw (tag one region said known same) (tag two place also others equal) =
    let pieces_are = sym same ∙ equal in
    let texts : tag_text one region s v ≡ tag_text two place t w = cc in
    let cuts = sym (tag_cut (locale_of_bytes a b c d) one region s v said.letters known) ∙ ap (split_at 43) texts ∙ tag_cut (locale_of_bytes e f g h) two place t w also.letters others in
    let languages : one ≡ two = cc in
    let tags : tags_of region s v ≡ tags_of place t w = cc in
    let apart =
    three-same tag_class 1 0 2 (script_tags s) (option_to_list region) (variant_tags v) (script_tags t) (option_to_list place) (variant_tags w)
    (record { ij = refl; ji = refl; ik = refl; ki = refl; jk = refl; kj = refl })
    (tags_classes (locale_of_bytes a b c d) region s v known) (tags_classes (locale_of_bytes e f g h) place t w others)
    tags in
    record {
      locale = said-by_same a b c d e f g h p q one two region place languages (option_to_list-same region place apart.1) said also;
      script = script_tags-same s t (ps.long ∙ sym pt.long) apart.0;
      variant = variant_tags-same v w (pv.long ∙ sym pw.long) known.variant others.variant apart.2;
    }
forms-same a b c d e f g h s v t w pieces p q ps pv pt pw (by_name same) (by_name equal) =
    let apart =
    three-same kind_of of_locale of_script of_variant (locale_pieces (locale_of_bytes a b c d)) (bytes_pieces (codes "script") s) (bytes_pieces (codes "variant") v) (locale_pieces (locale_of_bytes e f g h)) (bytes_pieces (codes "script") t) (bytes_pieces (codes "variant") w)
    (record { ij = refl; ji = refl; ik = refl; ki = refl; jk = refl; kj = refl })
    (kinds_of a b c d s v p ps pv) (kinds_of e f g h t w q pt pw)
    (sym same ∙ equal) in
    record {
      locale = locale-same a b c d e f g h p q apart.0;
      script = bytes-same (codes "script") s t 4 refl ps pt apart.1;
      variant = bytes-same (codes "variant") v w 8 refl pv pw apart.2;
    }
forms-same a b c d e f g h s v t w pieces p q ps pv pt pw one other =
    absurd (let ways = sym (told_way (locale_of_bytes a b c d) s v pieces one) ∙ told_way (locale_of_bytes e f g h) t w pieces other in omega (arith, ways))

pub locale-determined : (a b c d e f g h : ℕ) (s v t w : List ℕ) → AreBytes a b c d → AreBytes e f g h → IsOfBytes 4 s → IsOfBytes 8 v → IsOfBytes 4 t → IsOfBytes 8 w
    → all_pieces (locale_of_bytes a b c d) s v ≡ all_pieces (locale_of_bytes e f g h) t w
    → SameLocale (locale_of_bytes a b c d) (locale_of_bytes e f g h) s t v w
locale-determined a b c d e f g h s v t w p q ps pv pt pw same =
    forms-same a b c d e f g h s v t w (all_pieces (locale_of_bytes e f g h) t w) p q ps pv pt pw
    (subst (λ (pieces : List (List ℕ)). Form (locale_of_bytes a b c d) s v pieces) same (form_of a b c d p s v)) (form_of e f g h q t w)
