-- Words with commas between them determine their numbers.
use Rattle.std.proofs.Common.{◌≡◌, ℕ, suc, ◌<◌, ◌≤◌, ◌==◌, ◌&&◌, not, Bool, true, false, List, [], ◌∷◌, ◌++◌, codes, map, length, get_or, refl, sym, ap, subst, ◌∙◌, inl, inr, arith}
use Rattle.std.specs.Prelude.{filter, Contains}
use Rattle.std.specs.List.{list_any, flat_map, join_with_byte}
use Rattle.std.specs.List.Sorted.{IsStrictlyIncreasing}
use Rattle.std.proofs.lemmas.Bool.{cases_Bool, eq-eqb, eqb-true}
use Rattle.std.proofs.Math.Bool.{or-true}
use Rattle.std.proofs.lemmas.List.{length-append}
use Rattle.std.proofs.lemmas.List.Folds.{list_any-append, list_any_at}
use Rattle.std.proofs.lemmas.List.Kept.{AllPairs-from_increasing}
use Rattle.notation.specs.DevicesNotation.{comma, word_unless, listed_but, are_most, choice_text}
use Rattle.notation.proofs.Pieces.{split_at, split_at-append, split_at-whole}
use Rattle.notation.proofs.XmlLaw.{append-same}

abbrev pub has : ℕ → List ℕ → Bool
has mark text = list_any (λ x. x == mark) text

abbrev pub blank : ℕ
blank = 32

-- words that commas part, and that tell their numbers
pub record AreWords (word : ℕ → List ℕ) (P : ℕ → Type 0) : Type 0 where
  pub no_comma : (n : ℕ) → P n → has comma (word n) ≡ false
  pub no_blank : (n : ℕ) → P n → has blank (word n) ≡ false
  pub some : (n : ℕ) → P n → 0 < length (word n)
  pub same : (n m : ℕ) → P n → P m → word n ≡ word m → n ≡ m

abbrev pub AllAre : (ℕ → Type 0) → List ℕ → Type 0
AllAre P [] = Unit {0}
AllAre P (x ∷ xs) = P x × AllAre P xs

-- ---- elements, by a test

abbrev pub is_in : ℕ → List ℕ → Bool
is_in n xs = list_any (λ m. m == n) xs

pub is_in-contained : (n : ℕ) (xs : List ℕ) → Contains xs n → is_in n xs ≡ true
is_in-contained n xs is = list_any_at (λ m. m == n) xs is.0 n is.1 (eq-eqb (get_or xs is.0 n) n is.2)

pub contained : (n : ℕ) (xs : List ℕ) → is_in n xs ≡ true → Contains xs n
contained n [] is = absurd cc
contained n (x ∷ xs) is = elim (cases_Bool (x == n)) [
  | inl here ↦ (0, omega arith, eqb-true x n here)
  | inr other ↦ let behind = contained n xs (rw other at is) in (suc behind.0, omega (arith, behind.1), behind.2)
]

pub all_are : (P : ℕ → Type 0) (xs : List ℕ) → ((n : ℕ) → is_in n xs ≡ true → P n) → AllAre P xs
all_are P [] each = tt
all_are P (x ∷ xs) each = (each x (rw (eq-eqb x x refl) refl), all_are P xs (λ n is. each n (rw (is, or-true) refl)))

all-at : (P : ℕ → Type 0) (xs : List ℕ) (n : ℕ) → AllAre P xs → is_in n xs ≡ true → P n
all-at P [] n all is = absurd cc
all-at P (x ∷ xs) n all is = elim (cases_Bool (x == n)) [
  | inl here ↦ subst P (eqb-true x n here) all.0
  | inr other ↦ all-at P xs n all.1 (rw other at is)
]

in-filter : (p : ℕ → Bool) (n : ℕ) (xs : List ℕ) → is_in n (filter p xs) ≡ (is_in n xs && p n)
in-filter p n [] = refl
in-filter p n (x ∷ xs) = elim (cases_Bool (x == n)) [
  | inl here ↦ elim (cases_Bool (p x)) [
    | inl kept ↦ (let same = eqb-true x n here in rw (kept, here, ← same, kept) refl)
    | inr left ↦ (
        let same = eqb-true x n here in
        let none : p n ≡ false = rw same at left in
        rw (left, here, none) (in-filter p n xs ∙ rw none (by_false (is_in n xs)))
        )
  ]
  | inr other ↦ elim (cases_Bool (p x)) [
    | inl kept ↦ rw (kept, other) (in-filter p n xs)
    | inr left ↦ rw (left, other) (in-filter p n xs)
  ]
]
  where
    by_false : (b : Bool) → (b && false) ≡ false
    by_false true = refl
    by_false false = refl

-- ---- rising lists with the same elements

abbrev Rises : List ℕ → Type 0
Rises [] = Unit {0}
Rises (x ∷ xs) = AllAre (λ y. x < y) xs × Rises xs

abbrev PairsRise : List ℕ → Type 0
PairsRise xs = (i j : ℕ) → i < j → j < length xs → get_or xs i 0 < get_or xs j 0

above : (x : ℕ) (xs : List ℕ) → ((i : ℕ) → i < length xs → x < get_or xs i 0) → AllAre (λ y. x < y) xs
above x [] each = tt
above x (y ∷ ys) each = (each 0 (omega arith), above x ys (λ i within. each (suc i) (omega (arith, within))))

rises-of : (xs : List ℕ) → PairsRise xs → Rises xs
rises-of [] pairs = tt
rises-of (x ∷ xs) pairs = (above x xs (λ i within. pairs 0 (suc i) (omega arith) (omega (arith, within))), rises-of xs (λ i j less within. pairs (suc i) (suc j) (omega (arith, less)) (omega (arith, within))))

pub rises : (xs : List ℕ) → IsStrictlyIncreasing xs → Rises xs
rises xs is = rises-of xs (λ i j less within. AllPairs-from_increasing xs is i j 0 less within)

rising-same : (xs ys : List ℕ) → Rises xs → Rises ys → ((n : ℕ) → is_in n xs ≡ is_in n ys) → xs ≡ ys
rising-same [] [] p q same = refl
rising-same [] (y ∷ ys) p q same = absurd (let none = same y in let there : is_in y (y ∷ ys) ≡ true = rw (eq-eqb y y refl) refl in cc)
rising-same (x ∷ xs) [] p q same = absurd (let none = same x in let there : is_in x (x ∷ xs) ≡ true = rw (eq-eqb x x refl) refl in cc)
rising-same (x ∷ xs) (y ∷ ys) p q same =
    let first = least x y ys q (sym (same x) ∙ rw (eq-eqb x x refl) refl) in
    let second = least y x xs p (same y ∙ rw (eq-eqb y y refl) refl) in
    let heads : x ≡ y = omega (arith, first, second) in
    let tails = rising-same xs ys p.1 q.1 (λ n. tail n (x == n) refl heads) in
    cc
  where
    -- an element is no less than the first
    least : (n y : ℕ) (ys : List ℕ) → Rises (y ∷ ys) → is_in n (y ∷ ys) ≡ true → y ≤ n
    least n y ys up is = elim (cases_Bool (y == n)) [
      | inl here ↦ (let at = eqb-true y n here in omega arith)
      | inr other ↦ (let more = all-at (λ z. y < z) ys n up.0 (rw other at is) in omega arith)
    ]

    not-in : (z : ℕ) (zs : List ℕ) → Rises (z ∷ zs) → is_in z zs ≡ false
    not-in z zs up = elim (cases_Bool (is_in z zs)) [
      | inl there ↦ absurd (let less = all-at (λ w. z < w) zs z up.0 there in omega arith)
      | inr other ↦ other
    ]

    tail : (n : ℕ) (here : Bool) → (x == n) ≡ here → x ≡ y → is_in n xs ≡ is_in n ys
    tail n true e heads =
        let at : x ≡ n = eqb-true x n e in
        let mine : is_in n xs ≡ false = subst (λ (k : ℕ). is_in k xs ≡ false) at (not-in x xs p) in
        let other : is_in n ys ≡ false = subst (λ (k : ℕ). is_in k ys ≡ false) (sym heads ∙ at) (not-in y ys q) in
        mine ∙ sym other
    tail n false e heads = let both = same n in let also : (y == n) ≡ false = subst (λ (k : ℕ). (k == n) ≡ false) heads e in rw (e, also) at both

-- ---- words in a list

module _ (word : ℕ → List ℕ) (P : ℕ → Type 0) (are : AreWords word P) where
  words-same : (xs ys : List ℕ) → AllAre P xs → AllAre P ys → map word xs ≡ map word ys → xs ≡ ys
  words-same [] [] p q e = refl
  words-same [] (y ∷ ys) p q e = absurd cc
  words-same (x ∷ xs) [] p q e = absurd cc
  words-same (x ∷ xs) (y ∷ ys) p q e =
      let first : word x ≡ word y = cc in
      let others : map word xs ≡ map word ys = cc in
      let heads = are.same x y p.0 q.0 first in
      let tails = words-same xs ys p.1 q.1 others in
      cc

  split-words : (x : ℕ) (xs : List ℕ) → P x → AllAre P xs → split_at comma (join_with_byte comma (map word (x ∷ xs))) ≡ map word (x ∷ xs)
  split-words x [] p q = split_at-whole comma (word x) (are.no_comma x p)
  split-words x (y ∷ ys) p q =
      split_at-append comma (word x) (join_with_byte comma (map word (y ∷ ys)))
      ∙ rw (split_at-whole comma (word x) (are.no_comma x p), split-words y ys q.0 q.1) refl

  some-text : (x : ℕ) (xs : List ℕ) → P x → 0 < length (join_with_byte comma (map word (x ∷ xs)))
  some-text x [] p = are.some x p
  some-text x (y ∷ ys) p = let long = length-append (word x) (comma ∷ join_with_byte comma (map word (y ∷ ys))) in omega arith

  joined-same : (xs ys : List ℕ) → AllAre P xs → AllAre P ys → join_with_byte comma (map word xs) ≡ join_with_byte comma (map word ys) → xs ≡ ys
  joined-same [] [] p q e = refl
  joined-same [] (y ∷ ys) p q e = absurd (let long = some-text y ys q.0 in let none = ap (λ (t : List ℕ). length t) e in omega arith)
  joined-same (x ∷ xs) [] p q e = absurd (let long = some-text x xs p.0 in let none = ap (λ (t : List ℕ). length t) e in omega arith)
  joined-same (x ∷ xs) (y ∷ ys) p q e = words-same (x ∷ xs) (y ∷ ys) p q (sym (split-words x xs p.0 p.1) ∙ ap (split_at comma) e ∙ split-words y ys q.0 q.1)

  joined-blank : (xs : List ℕ) → AllAre P xs → has blank (join_with_byte comma (map word xs)) ≡ false
  joined-blank [] p = refl
  joined-blank (x ∷ []) p = are.no_blank x p.0
  joined-blank (x ∷ y ∷ ys) p =
      list_any-append (λ b. b == blank) (word x) (comma ∷ join_with_byte comma (map word (y ∷ ys)))
      ∙ rw (are.no_blank x p.0, joined-blank (y ∷ ys) p.1) refl

-- ---- those that are left

abbrev left : List ℕ → List ℕ → List ℕ
left others xs = filter (λ n. not (is_in n others)) xs

without : (word : ℕ → List ℕ) (others xs : List ℕ) → flat_map (word_unless word others) xs ≡ map word (left others xs)
unfolding word_unless
without word others [] = refl
without word others (x ∷ xs) = elim (cases_Bool (is_in x others)) [
  | inl there ↦ rw there (without word others xs)
  | inr other ↦ rw other (ap (λ (ts : List (List ℕ)). word x ∷ ts) (without word others xs))
]

all-left : (xs : List ℕ) → left [] xs ≡ xs
all-left [] = refl
all-left (x ∷ xs) = ap (λ (ys : List ℕ). x ∷ ys) (all-left xs)

AllAre-filter : (P : ℕ → Type 0) (p : ℕ → Bool) (xs : List ℕ) → AllAre P xs → AllAre P (filter p xs)
AllAre-filter P p [] all = tt
AllAre-filter P p (x ∷ xs) all = elim (cases_Bool (p x)) [
  | inl kept ↦ rw kept (all.0, AllAre-filter P p xs all.1)
  | inr left ↦ rw left (AllAre-filter P p xs all.1)
]

-- what is not left of a list that has all
there-same : (all xs ys : List ℕ) → ((n : ℕ) → is_in n xs ≡ true → is_in n all ≡ true) → ((n : ℕ) → is_in n ys ≡ true → is_in n all ≡ true)
    → left xs all ≡ left ys all → (n : ℕ) → is_in n xs ≡ is_in n ys
there-same all xs ys in_xs in_ys same n = by (is_in n xs) (is_in n ys) refl refl
  where
    tests : (is_in n all && not (is_in n xs)) ≡ (is_in n all && not (is_in n ys))
    tests = sym (in-filter (λ m. not (is_in m xs)) n all) ∙ ap (is_in n) same ∙ in-filter (λ m. not (is_in m ys)) n all

    by : (a b : Bool) → is_in n xs ≡ a → is_in n ys ≡ b → is_in n xs ≡ is_in n ys
    by true true e f = e ∙ sym f
    by false false e f = e ∙ sym f
    by true false e f = absurd (let other = rw (e, f, in_xs n e) at tests in cc)
    by false true e f = absurd (let other = rw (e, f, in_ys n f) at tests in cc)

-- ---- the texts of choices

pub record IsChoiceOf (P : ℕ → Type 0) (all xs : List ℕ) : Type 0 where
  pub rising : IsStrictlyIncreasing xs
  pub within : (n : ℕ) → is_in n xs ≡ true → is_in n all ≡ true
  pub are : AllAre P all

pub choice-same : (word : ℕ → List ℕ) (P : ℕ → Type 0) → AreWords word P → (all xs ys : List ℕ) → IsChoiceOf P all xs → IsChoiceOf P all ys
    → choice_text word all xs ≡ choice_text word all ys → xs ≡ ys
unfolding choice_text
choice-same word P are all xs ys one other same = by (are_most all xs) (are_most all ys) refl refl
  where
    of_all : (zs : List ℕ) → IsChoiceOf P all zs → AllAre P zs
    of_all zs is = all_are P zs (λ n there. all-at P all n is.are (is.within n there))

    but : List ℕ → List ℕ
    but zs = listed_but word zs all

    most : (zs : List ℕ) → are_most all zs ≡ true → choice_text word all zs ≡ codes "all but " ++ but zs
    most zs e = rw e refl

    few : (zs : List ℕ) → are_most all zs ≡ false → choice_text word all zs ≡ join_with_byte comma (map word zs)
    few zs e = rw (e, without word [] zs, all-left zs) refl

    blank_there : (zs : List ℕ) → are_most all zs ≡ true → has blank (choice_text word all zs) ≡ true
    blank_there zs e = rw (most zs e) refl

    none_there : (zs : List ℕ) → IsChoiceOf P all zs → are_most all zs ≡ false → has blank (choice_text word all zs) ≡ false
    none_there zs is e = rw (few zs e) (joined-blank word P are zs (of_all zs is))

    by : (a b : Bool) → are_most all xs ≡ a → are_most all ys ≡ b → xs ≡ ys
    by true true e f =
        let texts : codes "all but " ++ but xs ≡ codes "all but " ++ but ys = sym (most xs e) ∙ same ∙ most ys f in
        let lists = append-same (codes "all but ") (but xs) (but ys) texts in
        let words : join_with_byte comma (map word (left xs all)) ≡ join_with_byte comma (map word (left ys all)) = ap (join_with_byte comma) (sym (without word xs all)) ∙ lists ∙ ap (join_with_byte comma) (without word ys all) in
        let lefts = joined-same word P are (left xs all) (left ys all) (AllAre-filter P (λ n. not (is_in n xs)) all one.are) (AllAre-filter P (λ n. not (is_in n ys)) all other.are) words in
        rising-same xs ys (rises xs one.rising) (rises ys other.rising) (there-same all xs ys one.within other.within lefts)
    by false false e f = joined-same word P are xs ys (of_all xs one) (of_all ys other) (sym (few xs e) ∙ same ∙ few ys f)
    by true false e f = absurd (let test = sym (blank_there xs e) ∙ ap (has blank) same ∙ none_there ys other f in cc)
    by false true e f = absurd (let test = sym (none_there xs one e) ∙ ap (has blank) same ∙ blank_there ys f in cc)
