-- The pieces of numbers: of which coordinate they speak, and which number they tell.
use Rattle.std.proofs.Common.{◌≡◌, ◌≢◌, ℕ, zero, suc, ◌^◌, ◌<◌, ◌==◌, ◌&&◌, ◌||◌, not, Bool, true, false, if◌then◌else◌, List, [], ◌∷◌, ◌++◌, codes, Option, Some, None, refl, sym, ap, subst, ◌∙◌, inl, inr}
use Rattle.std.specs.Prelude.{bytes_eq}
use Rattle.std.specs.List.{list_any, list_all, flat_map}
use Rattle.std.specs.Fmt.{decimal, digits}
use Rattle.std.specs.Str.Parse.{digits_value}
use Rattle.std.proofs.lemmas.Bool.{cases_Bool, and_parts, eqb-true, ne_eqb, eq-eqb}
use Rattle.std.proofs.lemmas.Slice.Eq.{bytes_eq-Decides}
use Rattle.std.proofs.lemmas.Fmt.{decimal_is_IsNumeral}
use Rattle.std.proofs.lemmas.List.{append-nil}
use Rattle.config_record.specs.declared.coord.Coord.{Coord}
use Rattle.config_record.specs.declared.coord.Coord.TheVariants as coords
use Rattle.config_record.specs.Coord.{all_coords, name_of, place_of}
use Rattle.config_record.specs.locales.Locale.{dash, is_digit}
use Rattle.config_record.specs.locales.Text.{is_dash}
use Rattle.notation.specs.Words.{WordOf, words, find_word, word_for}
use Rattle.notation.specs.Forms.{forms, form_for}
use Rattle.notation.specs.NumberWord.{letters_at, number_word}
use Rattle.notation.specs.ConfigText.{number_parts}
use Rattle.notation.proofs.Digits.{letters_of, digits_of, Around, letters_around, digits_around, some_around, apart, none_around}
use Rattle.notation.proofs.Pieces.{pieces_of, pieces_of-whole}
use Rattle.notation.proofs.PieceKinds.{is_equals, is_bracket, kind_named, number_rows, word_rows, kind_said, kind_of, word-has, of_locale, of_script, of_variant}

-- ---- what stands around a number

abbrev pub front_of : Coord → List ℕ
front_of c = (letters_at c).front ++ (letters_at c).sign

abbrev pub end_of : Coord → List ℕ
end_of c = (letters_at c).end

abbrev in_its_letters : Coord → ℕ → List ℕ
in_its_letters c n = front_of c ++ decimal n ++ end_of c

pub as-word : (c : Coord) (n : ℕ) (word : List ℕ) → word_for words c n ≡ Some word → number_word c n ≡ word
unfolding number_word
as-word c n word found = rw found refl

pub as-letters : (c : Coord) (n : ℕ) → word_for words c n ≡ None → number_word c n ≡ in_its_letters c n
unfolding number_word
as-letters c n none = rw none refl

-- ---- of each coordinate

-- no digit and no dash around it, and no letters of `12key`
abbrev is_plain : List ℕ → List ℕ → Bool
is_plain front end =
    not (list_any is_digit front) && not (list_any is_digit end)
    && not (list_any is_dash front) && not (list_any is_dash end) && not (bytes_eq (front ++ end) (codes "key"))

plain : (c : Coord) → is_plain (front_of c) (end_of c) ≡ true
unfolding letters_at name_of form_for forms place_of
plain coords.Mcc = refl
plain c = refl

-- no equals sign, no bracket and no digit
pub record IsSaid (front end : List ℕ) : Type 0 where
  pub equals_before : list_any is_equals front ≡ false
  pub equals_behind : list_any is_equals end ≡ false
  pub bracket_before : list_any is_bracket front ≡ false
  pub bracket_behind : list_any is_bracket end ≡ false
  pub around : Around front end

pub kind_of-said : (front end : List ℕ) (n : ℕ) → n < 2 ^ 64 → IsSaid front end → kind_of (front ++ decimal n ++ end) ≡ kind_said (front ++ end) true
unfolding kind_of
kind_of-said front end n fits is =
    rw (none_around is_equals front end n fits (apart is_digit 61 refl) is.equals_before is.equals_behind, none_around is_bracket front end n fits (apart is_digit 40 refl) is.bracket_before is.bracket_behind, letters_around front end n is.around fits, some_around front end n fits) refl

kind-letters : (c : Coord) (n : ℕ) → n < 2 ^ 64 → kind_of (in_its_letters c n) ≡ place_of c
unfolding letters_at kind_of kind_named kind_said number_rows word_rows words form_for forms name_of place_of all_coords
kind-letters coords.Mcc n fits = kind_of-said (codes "mcc") [] n fits (record { equals_before = refl; equals_behind = refl; bracket_before = refl; bracket_behind = refl; around = record { before = refl; behind = refl } })
kind-letters coords.Mnc n fits = kind_of-said (codes "mnc") [] n fits (record { equals_before = refl; equals_behind = refl; bracket_before = refl; bracket_behind = refl; around = record { before = refl; behind = refl } })
kind-letters coords.SmallestWidthDp n fits = kind_of-said (codes "sw") (codes "dp") n fits (record { equals_before = refl; equals_behind = refl; bracket_before = refl; bracket_behind = refl; around = record { before = refl; behind = refl } })
kind-letters coords.WidthDp n fits = kind_of-said (codes "w") (codes "dp") n fits (record { equals_before = refl; equals_behind = refl; bracket_before = refl; bracket_behind = refl; around = record { before = refl; behind = refl } })
kind-letters coords.HeightDp n fits = kind_of-said (codes "h") (codes "dp") n fits (record { equals_before = refl; equals_behind = refl; bracket_before = refl; bracket_behind = refl; around = record { before = refl; behind = refl } })
kind-letters coords.Density n fits = kind_of-said [] (codes "dpi") n fits (record { equals_before = refl; equals_behind = refl; bracket_before = refl; bracket_behind = refl; around = record { before = refl; behind = refl } })
kind-letters coords.Sdk n fits = kind_of-said (codes "v") [] n fits (record { equals_before = refl; equals_behind = refl; bracket_before = refl; bracket_behind = refl; around = record { before = refl; behind = refl } })
kind-letters c n fits = refl

-- ---- the piece of a number

word_kind : (c : Coord) (n : ℕ) (word : List ℕ) → word_for words c n ≡ Some word → kind_of word ≡ place_of c
unfolding kind_of kind_said number_rows word_rows words forms place_of
word_kind c n word found = eqb-true (kind_of word) (place_of c) (word-has (λ t k m. kind_of t == k) words c n word refl found)

word_whole : (c : Coord) (n : ℕ) (word : List ℕ) → word_for words c n ≡ Some word → not (list_any is_dash word) ≡ true
unfolding words
word_whole c n word found = word-has (λ t k m. not (list_any is_dash t)) words c n word refl found

abbrev or_65535 : List ℕ → ℕ
or_65535 digits = if bytes_eq digits (codes "00") then 65535 else digits_value 10 digits

abbrev number_by : Option WordOf → ℕ
number_by None = 0
number_by (Some word) = word.number

-- the number that a piece tells
abbrev pub told : List ℕ → ℕ
told piece =
    if bytes_eq (letters_of piece) (codes "key") then 3
    else if list_any is_digit piece then or_65535 (digits_of piece)
    else number_by (find_word words piece)

word_told : (c : Coord) (n : ℕ) (word : List ℕ) → word_for words c n ≡ Some word → told word ≡ n
unfolding words find_word
word_told c n word found = eqb-true (told word) n (word-has (λ t k m. told t == m) words c n word refl found)

-- what is known of what stands around the number of a coordinate
record IsPlain (front end : List ℕ) : Type 0 where
  around : Around front end
  dash_before : list_any is_dash front ≡ false
  dash_behind : list_any is_dash end ≡ false
  no_key : bytes_eq (front ++ end) (codes "key") ≡ false

falsely : (b : Bool) → not b ≡ true → b ≡ false
falsely true e = absurd cc
falsely false e = refl

plain_of : (front end : List ℕ) → is_plain front end ≡ true → IsPlain front end
plain_of front end tests =
    let four = and_parts (not (list_any is_digit front) && not (list_any is_digit end) && not (list_any is_dash front) && not (list_any is_dash end)) (not (bytes_eq (front ++ end) (codes "key"))) tests in
    let three = and_parts (not (list_any is_digit front) && not (list_any is_digit end) && not (list_any is_dash front)) (not (list_any is_dash end)) four.0 in
    let two = and_parts (not (list_any is_digit front) && not (list_any is_digit end)) (not (list_any is_dash front)) three.0 in
    let one = and_parts (not (list_any is_digit front)) (not (list_any is_digit end)) two.0 in
    record {
      around = record { before = falsely _ one.0; behind = falsely _ one.1 };
      dash_before = falsely _ two.1;
      dash_behind = falsely _ three.1;
      no_key = falsely _ four.1;
    }

zero_digit : decimal 0 ≡ codes "0"
unfolding digits
zero_digit = refl

no_zeros : (n : ℕ) → n < 2 ^ 64 → bytes_eq (decimal n) (codes "00") ≡ false
no_zeros n fits = elim (cases_Bool (bytes_eq (decimal n) (codes "00"))) [
  | inl zeros ↦ absurd (
      let same : decimal n ≡ codes "00" = (bytes_eq-Decides (decimal n) (codes "00")).0 zeros in
      let none : n ≡ 0 = sym (decimal_is_IsNumeral n fits).1 ∙ ap (digits_value 10) same in
      let digits_are : codes "0" ≡ codes "00" = sym zero_digit ∙ ap decimal (sym none) ∙ same in
      cc
      )
  | inr other ↦ other
]

letters_told : (front end : List ℕ) (n : ℕ) → n < 2 ^ 64 → IsPlain front end → told (front ++ decimal n ++ end) ≡ n
letters_told front end n fits is =
    rw (letters_around front end n is.around fits, is.no_key, some_around front end n fits, digits_around front end n is.around fits, no_zeros n fits, (decimal_is_IsNumeral n fits).1) refl

-- ---- of any coordinate

pub record IsPieceOf (c : Coord) (n : ℕ) (piece : List ℕ) : Type 0 where
  pub kind : kind_of piece ≡ place_of c
  pub whole : pieces_of piece ≡ piece ∷ []
  pub tells : told piece ≡ n

pub is_piece : (c : Coord) (n : ℕ) → n < 2 ^ 64 → IsPieceOf c n (number_word c n)
is_piece c n fits = by (word_for words c n) refl
  where
    is : IsPlain (front_of c) (end_of c)
    is = plain_of (front_of c) (end_of c) (plain c)

    by : (word : Option (List ℕ)) → word_for words c n ≡ word → IsPieceOf c n (number_word c n)
    by (Some word) found =
        subst (λ (t : List ℕ). IsPieceOf c n t) (sym (as-word c n word found))
        (record {
          kind = word_kind c n word found;
          whole = pieces_of-whole word (falsely _ (word_whole c n word found));
          tells = word_told c n word found;
        })
    by None none =
        subst (λ (t : List ℕ). IsPieceOf c n t) (sym (as-letters c n none))
        (record {
          kind = kind-letters c n fits;
          whole = pieces_of-whole (in_its_letters c n) (none_around is_dash (front_of c) (end_of c) n fits (apart is_digit dash refl) is.dash_before is.dash_behind);
          tells = letters_told (front_of c) (end_of c) n fits is;
        })

-- ---- all pieces of a coordinate

-- what is named of a script or a variant is of the locale
abbrev pub owner : ℕ → ℕ
owner kind = if kind == of_script || kind == of_variant then of_locale else kind

abbrev pub is_of : ℕ → List ℕ → Bool
is_of place piece = owner (kind_of piece) == place

owner-place : (c : Coord) → owner (place_of c) ≡ place_of c
unfolding place_of
owner-place coords.Mcc = refl
owner-place c = refl

pub is_of-kind : (place : ℕ) (piece : List ℕ) → owner place ≡ place → kind_of piece ≡ place → is_of place piece ≡ true
is_of-kind place piece own kind = rw (kind, own) (eq-eqb place place refl)

unfoldable pub number_pieces : Coord → ℕ → List (List ℕ)
number_pieces c n = flat_map pieces_of (number_parts c n)

none_said : (c : Coord) → number_pieces c 0 ≡ []
unfolding number_pieces number_parts
none_said c = refl

one_said : (c : Coord) (n : ℕ) → n ≢ 0 → n < 2 ^ 64 → number_pieces c n ≡ number_word c n ∷ []
unfolding number_pieces number_parts
one_said c n some fits = rw (ne_eqb n 0 some) (append-nil (pieces_of (number_word c n)) ∙ (is_piece c n fits).whole)

pub number-all : (c : Coord) (n : ℕ) → n < 2 ^ 64 → list_all (is_of (place_of c)) (number_pieces c n) ≡ true
number-all c zero fits = rw (none_said c) refl
number-all c (suc n) fits =
    let some : suc n ≢ 0 = λ e. cc in
    rw (one_said c (suc n) some fits, is_of-kind (place_of c) (number_word c (suc n)) (owner-place c) (is_piece c (suc n) fits).kind) refl

pub number-same : (c : Coord) (n m : ℕ) → n < 2 ^ 64 → m < 2 ^ 64 → number_pieces c n ≡ number_pieces c m → n ≡ m
number-same c zero zero p q e = refl
number-same c zero (suc m) p q e = absurd (let other = sym (none_said c) ∙ e ∙ one_said c (suc m) (λ z. cc) q in cc)
number-same c (suc n) zero p q e = absurd (let other = sym (none_said c) ∙ sym e ∙ one_said c (suc n) (λ z. cc) p in cc)
number-same c (suc n) (suc m) p q e =
    let same = sym (one_said c (suc n) (λ z. cc) p) ∙ e ∙ one_said c (suc m) (λ z. cc) q in
    let pieces : number_word c (suc n) ≡ number_word c (suc m) = cc in
    sym (is_piece c (suc n) p).tells ∙ ap told pieces ∙ (is_piece c (suc m) q).tells
