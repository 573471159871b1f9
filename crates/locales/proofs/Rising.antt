-- What a search finds among elements whose keys rise.
use Rattle.std.proofs.Common.{◌≡◌, ℕ, zero, suc, ◌+◌, ◌<◌, ◌≤◌, ◌==◌, ◌≢◌, Bool, true, List, [], ◌∷◌, length, get_or, find, is_some, is_ok, Some, None, Result, Ok, Err, inl, inr, nat_le, refl, sym, ap, ◌∙◌, arith, leb-true, eq-eqb, ne_eqb, le_of_suc-le-suc, not-suc-le-zero}
use Rattle.std.specs.List.{list_any}
use Rattle.std.specs.List.Sorted.{IsSearchInRange, IsBinarySearchResult, IsNonDecreasingBy}
use Rattle.std.specs.Ordering.{nat_cmp, ordering_index}
use Rattle.std.proofs.lemmas.Bool.{cond-true, cond-false, cases_Bool, and_parts}
use Rattle.std.proofs.lemmas.Bool.Decides.{nat_tests}
use Rattle.std.proofs.lemmas.Cmp.{ranked}
use Rattle.locales.specs.Lines.{rises_from, IsRising}

module _ {X : Type 0} (key : X → ℕ) where
  rises_from-parts : (least : ℕ) (x : X) (xs : List X) → rises_from key least (x ∷ xs) ≡ true → (least ≤ key x) × (rises_from key (key x + 1) xs ≡ true)
  unfolding rises_from
  rises_from-parts least x xs rises =
      let parts = and_parts (nat_le least (key x)) (rises_from key (key x + 1) xs) rises in (leb-true least (key x) parts.0, parts.1)

  least_le : (least : ℕ) (xs : List X) → rises_from key least xs ≡ true → (i : ℕ) (d : X) → i < length xs → least ≤ key (get_or xs i d)
  least_le least [] rises i d lt = absurd (not-suc-le-zero lt)
  least_le least (x ∷ xs) rises zero d lt = (rises_from-parts least x xs rises).0
  least_le least (x ∷ xs) rises (suc i) d lt =
      let parts = rises_from-parts least x xs rises in
      let rest = least_le (key x + 1) xs parts.1 i d (le_of_suc-le-suc lt) in omega arith

  keys_rise : (least : ℕ) (xs : List X) → rises_from key least xs ≡ true → (i j : ℕ) (d : X) → i < j → j < length xs → key (get_or xs i d) < key (get_or xs j d)
  keys_rise least [] rises i j d below lt = absurd (not-suc-le-zero lt)
  keys_rise least (x ∷ xs) rises i zero d below lt = absurd (not-suc-le-zero below)
  keys_rise least (x ∷ xs) rises zero (suc j) d below lt =
      let rest = least_le (key x + 1) xs (rises_from-parts least x xs rises).1 j d (le_of_suc-le-suc lt) in omega arith
  keys_rise least (x ∷ xs) rises (suc i) (suc j) d below lt =
      keys_rise (key x + 1) xs (rises_from-parts least x xs rises).1 i j d (le_of_suc-le-suc below) (le_of_suc-le-suc lt)

  module _ (k : ℕ) where
    find-absent : (xs : List X) → ((j : ℕ) (d : X) → j < length xs → key (get_or xs j d) ≢ k) → find (λ x. key x == k) xs ≡ None
    find-absent [] other = refl
    find-absent (x ∷ xs) other =
        cond-false _ _ _ (ne_eqb _ _ (other 0 x (omega arith))) ∙ find-absent xs (λ j d lt. other (suc j) d (omega arith))

    find-present : (xs : List X) (i : ℕ) (d : X) → i < length xs → key (get_or xs i d) ≡ k → ((j : ℕ) → j < i → key (get_or xs j d) ≢ k) → find (λ x. key x == k) xs ≡ Some (get_or xs i d)
    find-present [] i d lt same other = absurd (not-suc-le-zero lt)
    find-present (x ∷ xs) zero d lt same other = cond-true _ _ _ (eq-eqb _ _ same)
    find-present (x ∷ xs) (suc i) d lt same other =
        cond-false _ _ _ (ne_eqb _ _ (other 0 (omega arith)))
        ∙ find-present xs i d (le_of_suc-le-suc lt) same (λ j below. other (suc j) (omega arith))

    -- the comparisons with k rise, as a binary search asks
    comparisons_rise : (xs : List X) → IsRising key xs → IsNonDecreasingBy (λ x. ordering_index (nat_cmp (key x) k)) xs
    comparisons_rise xs rises i j d le lt =
        let up = keys_rise 0 xs rises i j d in
        let keys : key (get_or xs i d) ≤ key (get_or xs j d) = grind (arith, up, λ (same : i ≡ j). ap (λ n. key (get_or xs n d)) same) in
        grind (arith, nat_tests)

    -- the element at which a binary search ends is the one that `find` gives
    pub find-at_found : (xs : List X) (i : ℕ) (d : X) → IsRising key xs → IsSearchInRange (Ok i) (length xs) → IsBinarySearchResult (λ x. nat_cmp (key x) k) xs (Ok i) → find (λ x. key x == k) xs ≡ Some (get_or xs i d)
    find-at_found xs i d rises lt equal =
        let same = ranked _ k _ (sym (equal d)) in
        find-present xs i d lt same (λ j below other. let up = keys_rise 0 xs rises j i d below lt in omega arith)

    -- where it ends at no element, there is none
    pub find-at_gap : (xs : List X) (i : ℕ) → IsRising key xs → IsBinarySearchResult (λ x. nat_cmp (key x) k) xs (Err i) → find (λ x. key x == k) xs ≡ None
    find-at_gap xs i rises parted = find-absent xs (λ j d lt same.
        let before = λ (below : j < i). ranked _ k _ (sym ((parted (comparisons_rise xs rises)).0 j d (omega arith) below)) in
        let behind = λ (from : i ≤ j). ranked _ k _ (sym ((parted (comparisons_rise xs rises)).1 j d from lt)) in
        grind (arith, before, behind))

    -- it ends at an element exactly where there is one
    pub is_some-find : (xs : List X) (r : Result ℕ ℕ) → IsRising key xs → IsSearchInRange r (length xs) → IsBinarySearchResult (λ x. nat_cmp (key x) k) xs r → is_ok r ≡ is_some (find (λ x. key x == k) xs)
    is_some-find [] (Ok i) rises lt equal = absurd (not-suc-le-zero lt)
    is_some-find (x ∷ xs) (Ok i) rises lt equal = sym (ap is_some (find-at_found (x ∷ xs) i x rises lt equal))
    is_some-find xs (Err i) rises le parted = sym (ap is_some (find-at_gap xs i rises parted))

module _ {X : Type 0} (p : X → Bool) where
  pub list_any-find : (xs : List X) → list_any p xs ≡ is_some (find p xs)
  list_any-find [] = refl
  list_any-find (x ∷ xs) = elim (cases_Bool (p x)) [
    | inl is ↦ rw is refl
    | inr other ↦ rw other (list_any-find xs)
  ]
