-- Where texts of locales are cut.
use Rattle.std.proofs.Common.{◌≡◌, ℕ, ◌+◌, ◌<◌, ◌≤◌, Bool, List, [], ◌∷◌, ◌++◌, length, drop, position, Some, None, unwrap_or, refl, sym, ap, subst, ◌∙◌, arith, inl, inr, length-append, length-take, lt-ltb, le-ltb}
use Rattle.std.specs.List.{position_or_len, before_first}
use Rattle.locales.specs.Locale.{without_region, with_region, cut_at, locale_of}
use Rattle.locales.specs.Text.{is_dash, language_part, written_script}
use Rattle.std.proofs.Math.Numerals.{one-add}
use Rattle.std.proofs.Math.Seq.{take-append_seam, drop-append-add}
use Rattle.std.proofs.lemmas.List.{append-nil}
use Rattle.std.proofs.lemmas.Bool.{cases_Bool, cases_lt}

pub position_or_len-le : {X : Type 0} (p : X → Bool) (xs : List X) → position_or_len p xs ≤ length xs
position_or_len-le p [] = omega arith
position_or_len-le p (x ∷ xs) = elim (cases_Bool (p x)) [
  | inl here ↦ let rest = position_or_len-le p xs in rw here (omega arith)
  | inr other ↦ let rest = position_or_len-le p xs in rw other (omega arith)
]

-- the place of the first, or else the end
pub first_place : {X : Type 0} (p : X → Bool) (xs : List X) → unwrap_or (position p xs) (length xs) ≡ position_or_len p xs
first_place p xs = elim (cases_lt (position_or_len p xs) (length xs)) [
  | inl within ↦ rw (lt-ltb (position_or_len p xs) (length xs) within) refl
  | inr end ↦
      let all : position_or_len p xs ≡ length xs = omega (arith, position_or_len-le p xs) in
      rw (le-ltb (position_or_len p xs) (length xs) end) (sym all)
]

-- ---- a text that is cut at its first dash

module _ {X : Type 0} (p : X → Bool) where
  pub no_more_before : (xs : List X) → position_or_len p (before_first p xs) ≡ length (before_first p xs)
  no_more_before [] = refl
  no_more_before (x ∷ xs) = elim (cases_Bool (p x)) [
    | inl here ↦ rw here refl
    | inr other ↦ let rest = no_more_before xs in rw (other, one-add (position_or_len p xs), other) (omega (arith, rest))
  ]

  pub next_behind : (xs : List X) → position_or_len p (drop (position_or_len p xs) xs) ≡ 0
  next_behind [] = refl
  next_behind (x ∷ xs) = elim (cases_Bool (p x)) [
    | inl here ↦ rw (here, here) refl
    | inr other ↦ rw (other, one-add (position_or_len p xs)) (next_behind xs)
  ]

  pub position_or_len-append : (xs ys : List X) → position_or_len p xs ≡ length xs → position_or_len p (xs ++ ys) ≡ length xs + position_or_len p ys
  position_or_len-append [] ys none = omega arith
  position_or_len-append (x ∷ xs) ys none = elim (cases_Bool (p x)) [
    | inl here ↦ let e = rw here at none in absurd (omega (arith, e))
    | inr other ↦
        let e = rw other at none in
        let rest = position_or_len-append xs ys (omega (arith, e)) in rw other (omega (arith, rest))
  ]

pub no_dash_before : (text : List ℕ) → position_or_len is_dash (language_part text) ≡ length (language_part text)
no_dash_before text = no_more_before is_dash text

-- ---- pieces of a text

pub language_alone_is : (language : List ℕ) → position_or_len is_dash language ≡ length language → locale_of (language ++ []) ≡ without_region language
language_alone_is language none =
    let cut : position is_dash language ≡ None = rw (none, le-ltb (length language) (length language) (omega arith)) refl in
    ap locale_of (append-nil language) ∙ ap (cut_at language) cut

pub language_and_region_is : (language : List ℕ) (first : ℕ) (region : List ℕ) → position_or_len is_dash language ≡ length language → position_or_len is_dash (first ∷ region) ≡ 0 → locale_of (language ++ first ∷ region) ≡ with_region language region
language_and_region_is language first region none dash_first =
    let text = language ++ first ∷ region in
    let at : position_or_len is_dash text ≡ length language = omega (arith, position_or_len-append is_dash language (first ∷ region) none, dash_first) in
    let within : length language < length text = omega (arith, length-append language (first ∷ region)) in
    let cut : position is_dash text ≡ Some (length language) = rw (at, lt-ltb (length language) (length text) within) refl in
    ap (cut_at text) cut
    ∙ ap (λ (t : List ℕ). with_region t (drop (length language + 1) text)) (take-append_seam language (first ∷ region))
    ∙ ap (with_region language) (drop-append-add language (first ∷ region) 1)

-- ---- the four letters of a script

pub written_script-four : (bytes script : List ℕ) → written_script bytes ≡ Some script → length bytes ≡ 4
written_script-four [] script e = absurd cc
written_script-four (a ∷ []) script e = absurd cc
written_script-four (a ∷ b ∷ []) script e = absurd cc
written_script-four (a ∷ b ∷ c ∷ []) script e = absurd cc
written_script-four (a ∷ b ∷ c ∷ d ∷ []) script e = refl
written_script-four (a ∷ b ∷ c ∷ d ∷ f ∷ bytes) script e = absurd cc

-- what stands behind it begins with the next dash
pub behind_script : (text script : List ℕ) → written_script (language_part text) ≡ Some script → position_or_len is_dash (drop 4 text) ≡ 0
behind_script text script written =
    let four : position_or_len is_dash text ≡ 4 =
    omega (arith, written_script-four (language_part text) script written, length-take (position_or_len is_dash text) text, position_or_len-le is_dash text) in
    subst (λ (n : ℕ). position_or_len is_dash (drop n text) ≡ 0) four (next_behind is_dash text)
