-- Of which coordinate a piece of a text speaks.
use Rattle.std.proofs.Common.{◌≡◌, ℕ, ◌==◌, ◌&&◌, not, Bool, true, false, if◌then◌else◌, List, [], ◌∷◌, ◌++◌, codes, map, Some, None, refl, subst, inl, inr}
use Rattle.std.specs.Prelude.{bytes_eq}
use Rattle.std.specs.List.{list_any, list_all, before_first}
use Rattle.std.proofs.lemmas.Bool.{cases_Bool, and_parts, eqb-true}
use Rattle.std.proofs.Math.Bool.{and-false}
use Rattle.std.proofs.lemmas.Slice.Eq.{bytes_eq-Decides}
use Rattle.config_record.specs.declared.coord.Coord.{Coord}
use Rattle.config_record.specs.Coord.{all_coords, name_of, place_of}
use Rattle.config_record.specs.locales.Locale.{is_digit}
use Rattle.notation.specs.Words.{WordOf, words, find_word, word_for}
use Rattle.notation.specs.Forms.{FormOf, forms}
use Rattle.notation.proofs.Digits.{letters_of, is_no_digit, filter-all, all-not}

abbrev pub is_equals : ℕ → Bool
is_equals byte = byte == 61

abbrev pub is_bracket : ℕ → Bool
is_bracket byte = byte == 40

-- the place of the coordinate; 2, of the locale, where no other has such pieces
abbrev pub of_locale : ℕ
of_locale = 2

-- no coordinate has these
abbrev pub of_script : ℕ
of_script = 25

abbrev pub of_variant : ℕ
of_variant = 26

abbrev pub of_none : ℕ
of_none = 27

-- ---- what is named

unfoldable pub kind_named : List Coord → List ℕ → ℕ
kind_named [] name = if bytes_eq name (codes "script") then of_script else if bytes_eq name (codes "variant") then of_variant else of_locale
kind_named (c ∷ cs) name = if bytes_eq (name_of c) name then place_of c else kind_named cs name

-- ---- what is said

-- letters, whether there are digits among them, and the coordinate
pub record Row : Type 0 where
  pub letters : List ℕ
  pub digits : Bool
  pub kind : ℕ

abbrev pub same : Bool → Bool → Bool
same true b = b
same false b = not b

abbrev pub row_of_word : WordOf → Row
row_of_word word = record { letters = letters_of word.text; digits = list_any is_digit word.text; kind = place_of word.coord }

abbrev pub row_of_form : FormOf → Row
row_of_form form = record { letters = form.front ++ form.end; digits = true; kind = place_of form.coord }

abbrev pub row : List ℕ → ℕ → Row
row letters kind = record { letters = letters; digits = true; kind = kind }

abbrev pub is_row : List ℕ → Bool → Row → Bool
is_row letters digits row = bytes_eq row.letters letters && same row.digits digits

abbrev pub kind_among : List Row → List ℕ → Bool → ℕ
kind_among [] letters digits = of_locale
kind_among (row ∷ rows) letters digits = if is_row letters digits row then row.kind else kind_among rows letters digits

-- of numbers with letters around them; of sizes and versions
unfoldable pub number_rows : List Row
number_rows = map row_of_form forms ++ row (codes "x") 21 ∷ row (codes "v") 23 ∷ row (codes "v.") 23 ∷ []

unfoldable pub word_rows : List Row
word_rows = map row_of_word words

unfoldable pub kind_said : List ℕ → Bool → ℕ
kind_said letters digits =
    if kind_among word_rows letters digits == of_locale then kind_among number_rows letters digits else kind_among word_rows letters digits

unfoldable pub kind_of : List ℕ → ℕ
kind_of piece =
    if list_any is_equals piece then kind_named all_coords (before_first is_equals piece)
    else if list_any is_bracket piece then of_none
    else kind_said (letters_of piece) (list_any is_digit piece)

-- of a number that is not named
pub kind_of-number : (piece : List ℕ) → list_any is_equals piece ≡ false → list_any is_bracket piece ≡ false → list_any is_digit piece ≡ true
    → kind_of piece ≡ kind_said (letters_of piece) true
unfolding kind_of
kind_of-number piece equals bracket digit = rw (equals, bracket, digit) refl

-- ---- words

-- what holds of all words holds of the one that a number has
pub word-has : (P : List ℕ → ℕ → ℕ → Bool) (ws : List WordOf) (c : Coord) (n : ℕ) (text : List ℕ)
    → list_all (λ w. P w.text (place_of w.coord) w.number) ws ≡ true → word_for ws c n ≡ Some text → P text (place_of c) n ≡ true
unfolding word_for
word-has P [] c n text all found = absurd cc
word-has P (w ∷ ws) c n text all found =
    let both = and_parts (P w.text (place_of w.coord) w.number) (list_all (λ w. P w.text (place_of w.coord) w.number) ws) all in
    elim (cases_Bool (place_of w.coord == place_of c && w.number == n)) [
      | inl is ↦
          let parts = and_parts (place_of w.coord == place_of c) (w.number == n) is in
          let at : Some w.text ≡ Some text = rw is at found in
          let text_is : w.text ≡ text = cc in
          rw (← text_is, ← eqb-true (place_of w.coord) (place_of c) parts.0, ← eqb-true w.number n parts.1) both.0
      | inr other ↦ word-has P ws c n text both.1 (rw other at found)
    ]

-- a text is no word where it has a byte that no word has
pub no_word : (q : ℕ → Bool) (ws : List WordOf) (text : List ℕ) → list_all (λ w. not (list_any q w.text)) ws ≡ true → list_any q text ≡ true → find_word ws text ≡ None
unfolding find_word
no_word q [] text all has = refl
no_word q (w ∷ ws) text all has =
    let both = and_parts (not (list_any q w.text)) (list_all (λ w. not (list_any q w.text)) ws) all in
    elim (cases_Bool (bytes_eq w.text text)) [
      | inl is ↦
          let text_is : w.text ≡ text = (bytes_eq-Decides w.text text).0 is in
          absurd (let none : not (list_any q text) ≡ true = subst (λ (t : List ℕ). not (list_any q t) ≡ true) text_is both.0 in let false_is = rw has at none in cc)
      | inr other ↦ rw other (no_word q ws text both.1 has)
    ]

no_row : (w : WordOf) (text : List ℕ) → bytes_eq w.text text ≡ false → is_row text false (row_of_word w) ≡ false
no_row w text other = elim (cases_Bool (list_any is_digit w.text)) [
  | inl digits ↦ rw (digits, and-false) refl
  | inr none ↦ rw (none, filter-all is_no_digit w.text (all-not is_digit w.text none), other) refl
]

-- what is no word, and has no digits, speaks of no coordinate
pub kind_among-no_word : (ws : List WordOf) (text : List ℕ) → find_word ws text ≡ None → kind_among (map row_of_word ws) text false ≡ of_locale
unfolding find_word
kind_among-no_word [] text none = refl
kind_among-no_word (w ∷ ws) text none = elim (cases_Bool (bytes_eq w.text text)) [
  | inl is ↦ absurd (let found = rw is at none in cc)
  | inr other ↦ rw (no_row w text other) (kind_among-no_word ws text (rw other at none))
]
