-- The pieces of a text between its dashes.
use Rattle.std.proofs.Common.{◌≡◌, ℕ, ◌<◌, ◌==◌, ◌||◌, Bool, true, false, List, [], ◌∷◌, ◌++◌, length, refl, sym, ap, ◌∙◌, inl, inr, arith}
use Rattle.std.specs.Prelude.{filter}
use Rattle.std.specs.List.{flat_map, join_with_byte, slice_split, onto_first, list_any, list_all}
use Rattle.std.proofs.lemmas.Bool.{cases_Bool, eq-eqb, eqb-true}
use Rattle.std.proofs.Math.Bool.{or-false}
use Rattle.std.proofs.lemmas.List.{append-nil}
use Rattle.std.proofs.lemmas.List.Elements.{filter-append}
use Rattle.std.proofs.lemmas.List.Splits.{length-slice_split, slice_split-cons_yes, slice_split-cons_no}
use Rattle.config_record.specs.locales.Locale.{dash}
use Rattle.config_record.specs.locales.Text.{is_dash}
use Rattle.notation.proofs.Digits.{filter-all, filter-none, any-none}

abbrev pub split_at : ℕ → List ℕ → List (List ℕ)
split_at mark text = slice_split (λ b. b == mark) text

abbrev pub pieces_of : List ℕ → List (List ℕ)
pieces_of text = split_at dash text

onto_first-append : (x : ℕ) (ps qs : List (List ℕ)) → 0 < length ps → onto_first x (ps ++ qs) ≡ onto_first x ps ++ qs
onto_first-append x [] qs some = absurd (omega (arith, some))
onto_first-append x (p ∷ ps) qs some = refl

module _ (mark : ℕ) where
  abbrev is_mark : ℕ → Bool
  is_mark b = b == mark

  some_piece : (text : List ℕ) → 0 < length (split_at mark text)
  some_piece text = omega (arith, length-slice_split is_mark text)

  pub split_at-append : (xs ys : List ℕ) → split_at mark (xs ++ mark ∷ ys) ≡ split_at mark xs ++ split_at mark ys
  split_at-append [] ys = slice_split-cons_yes is_mark mark ys (eq-eqb mark mark refl)
  split_at-append (x ∷ xs) ys = elim (cases_Bool (is_mark x)) [
    | inl cut ↦ rw (slice_split-cons_yes is_mark x (xs ++ mark ∷ ys) cut, slice_split-cons_yes is_mark x xs cut, split_at-append xs ys) refl
    | inr other ↦
        rw (slice_split-cons_no is_mark x (xs ++ mark ∷ ys) other, slice_split-cons_no is_mark x xs other, split_at-append xs ys)
        (onto_first-append x (split_at mark xs) (split_at mark ys) (some_piece xs))
  ]

  -- a text without the mark is one piece
  pub split_at-whole : (text : List ℕ) → list_any is_mark text ≡ false → split_at mark text ≡ text ∷ []
  split_at-whole [] none = refl
  split_at-whole (x ∷ xs) none = elim (cases_Bool (is_mark x)) [
    | inl cut ↦ absurd (let found = rw cut at none in cc)
    | inr other ↦ rw (slice_split-cons_no is_mark x xs other, split_at-whole xs (rw other at none)) refl
  ]

pub pieces_of-whole : (text : List ℕ) → list_any is_dash text ≡ false → pieces_of text ≡ text ∷ []
pieces_of-whole = split_at-whole dash

-- those of parts with dashes between them are theirs one after the other
pub pieces_of-joined : (part : List ℕ) (parts : List (List ℕ)) → pieces_of (join_with_byte dash (part ∷ parts)) ≡ flat_map pieces_of (part ∷ parts)
pieces_of-joined part [] = sym (append-nil (pieces_of part))
pieces_of-joined part (next ∷ parts) =
    split_at-append dash part (join_with_byte dash (next ∷ parts)) ∙ ap (λ (ps : List (List ℕ)). pieces_of part ++ ps) (pieces_of-joined next parts)

-- ---- what is in a text is in a piece

any-onto_first : (p : ℕ → Bool) (x : ℕ) (ps : List (List ℕ)) → list_any (list_any p) (onto_first x ps) ≡ (p x || list_any (list_any p) ps)
any-onto_first p x [] = or-false (p x || false) ∙ refl
any-onto_first p x (q ∷ qs) = elim (cases_Bool (p x)) [
  | inl here ↦ rw here refl
  | inr other ↦ rw other refl
]

pub any-pieces : (p : ℕ → Bool) (text : List ℕ) → p dash ≡ false → list_any (list_any p) (pieces_of text) ≡ list_any p text
any-pieces p [] other = refl
any-pieces p (x ∷ xs) other = elim (cases_Bool (x == dash)) [
  | inl cut ↦ rw (slice_split-cons_yes (λ b. b == dash) x xs cut, eqb-true x dash cut, other) (any-pieces p xs other)
  | inr it ↦ rw (slice_split-cons_no (λ b. b == dash) x xs it) (any-onto_first p x (pieces_of xs) ∙ rw (any-pieces p xs other) refl)
]

-- ---- lists that are told apart

abbrev pub all_are : (List ℕ → ℕ) → ℕ → List (List ℕ) → Type 0
all_are kind k texts = list_all (λ t. kind t == k) texts ≡ true

kept : (kind : List ℕ → ℕ) (k : ℕ) (texts : List (List ℕ)) → all_are kind k texts → filter (λ t. kind t == k) texts ≡ texts
kept kind k texts all = filter-all (λ t. kind t == k) texts all

dropped : (kind : List ℕ → ℕ) (k other : ℕ) (texts : List (List ℕ)) → (other == k) ≡ false → all_are kind other texts → filter (λ t. kind t == k) texts ≡ []
dropped kind k other texts apart all =
    filter-none (λ t. kind t == k) texts
    (any-none (λ t. kind t == other) (λ t. kind t == k) texts (λ t is. (rw (eqb-true (kind t) other is) apart)) all)

pub record Three (kind : List ℕ → ℕ) (i j k : ℕ) (first second third : List (List ℕ)) : Type 0 where
  pub one : all_are kind i first
  pub two : all_are kind j second
  pub three : all_are kind k third

pub record Apart (i j k : ℕ) : Type 0 where
  pub ij : (i == j) ≡ false
  pub ji : (j == i) ≡ false
  pub ik : (i == k) ≡ false
  pub ki : (k == i) ≡ false
  pub jk : (j == k) ≡ false
  pub kj : (k == j) ≡ false

firsts : (kind : List ℕ → ℕ) (i j k : ℕ) (a b c : List (List ℕ)) → Apart i j k → Three kind i j k a b c → filter (λ t. kind t == i) (a ++ b ++ c) ≡ a
firsts kind i j k a b c apart is = simp (filter-append, kept kind i a is.one, dropped kind i j b apart.ji is.two, dropped kind i k c apart.ki is.three, append-nil)

seconds : (kind : List ℕ → ℕ) (i j k : ℕ) (a b c : List (List ℕ)) → Apart i j k → Three kind i j k a b c → filter (λ t. kind t == j) (a ++ b ++ c) ≡ b
seconds kind i j k a b c apart is = simp (filter-append, kept kind j b is.two, dropped kind j i a apart.ij is.one, dropped kind j k c apart.kj is.three, append-nil)

thirds : (kind : List ℕ → ℕ) (i j k : ℕ) (a b c : List (List ℕ)) → Apart i j k → Three kind i j k a b c → filter (λ t. kind t == k) (a ++ b ++ c) ≡ c
thirds kind i j k a b c apart is = simp (filter-append, kept kind k c is.three, dropped kind k i a apart.ik is.one, dropped kind k j b apart.jk is.two)

-- three lists, one after the other, are determined where their kinds differ
pub three-same : (kind : List ℕ → ℕ) (i j k : ℕ) (a b c d e f : List (List ℕ)) → Apart i j k → Three kind i j k a b c → Three kind i j k d e f
    → a ++ b ++ c ≡ d ++ e ++ f → (a ≡ d) × (b ≡ e) × (c ≡ f)
three-same kind i j k a b c d e f apart p q same = (
  sym (firsts kind i j k a b c apart p) ∙ ap (filter (λ t. kind t == i)) same ∙ firsts kind i j k d e f apart q,
  sym (seconds kind i j k a b c apart p) ∙ ap (filter (λ t. kind t == j)) same ∙ seconds kind i j k d e f apart q,
  sym (thirds kind i j k a b c apart p) ∙ ap (filter (λ t. kind t == k)) same ∙ thirds kind i j k d e f apart q,
)
