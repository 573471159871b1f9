-- Lists that are put in order: it does not matter to what is found of them.
use Rattle.std.proofs.Common.{◌≡◌, ℕ, ◌/◌, ◌%◌, ◌^◌, ◌<◌, ◌==◌, not, Bool, true, false, List, [], ◌∷◌, ◌++◌, find, filter, Option, Some, None, nat_lt, if◌then◌else◌, cond, refl, sym, ap, ap₂, ◌∙◌, inl, inr, arith, lt-ltb, le-ltb}
use Rattle.std.specs.Option.{option_or}
use Rattle.std.proofs.lemmas.Bool.{cond-true, cond-false, cases_Bool, cases_lt}
use Rattle.std.proofs.lemmas.List.Folds.{find-append}

-- an element before the first whose key is not smaller
unfoldable pub insert : {X : Type 0} → (X → ℕ) → X → List X → List X
insert key x [] = x ∷ []
insert key x (first ∷ xs) = if nat_lt (key first) (key x) then first ∷ insert key x xs else x ∷ first ∷ xs

unfoldable pub in_order : {X : Type 0} → (X → ℕ) → List X → List X
in_order key [] = []
in_order key (x ∷ xs) = insert key x (in_order key xs)

-- a test that elements with two keys do not both pass
module _ {X : Type 0} (key : X → ℕ) (p : X → Bool) (one_key : (x y : X) → p x ≡ true → p y ≡ true → key x ≡ key y) where
  find-cons : (x : X) (xs ys : List X) → find p xs ≡ find p ys → find p (x ∷ xs) ≡ find p (x ∷ ys)
  find-cons x xs ys same = ap (cond (p x) (Some x)) same

  find-swap : (x y : X) (xs : List X) → key x < key y → find p (x ∷ y ∷ xs) ≡ find p (y ∷ x ∷ xs)
  find-swap x y xs lt = elim (cases_Bool (p y)) [
    | inl here ↦ elim (cases_Bool (p x)) [
      | inl both ↦ absurd (omega (arith, one_key x y both here))
      | inr other ↦ rw (here, other) refl
    ]
    | inr other ↦ rw other refl
  ]

  find-insert : (x : X) (xs : List X) → find p (insert key x xs) ≡ find p (x ∷ xs)
  unfolding insert
  find-insert x [] = refl
  find-insert x (first ∷ xs) = elim (cases_lt (key first) (key x)) [
    | inl before ↦
        ap (find p) (cond-true _ _ _ (lt-ltb _ _ before))
        ∙ find-cons first (insert key x xs) (x ∷ xs) (find-insert x xs)
        ∙ find-swap first x xs before
    | inr here ↦ ap (find p) (cond-false _ _ _ (le-ltb _ _ here))
  ]

  find-in_order : (xs : List X) → find p (in_order key xs) ≡ find p xs
  unfolding in_order
  find-in_order [] = refl
  find-in_order (x ∷ xs) = find-insert x (in_order key xs) ∙ find-cons x (in_order key xs) xs (find-in_order xs)

-- ---- put nearly in order by single bits of their keys, so that little is left to do

abbrev has_bit : ℕ → ℕ → Bool
has_bit bit n = n / 2 ^ bit % 2 == 1

-- bit by bit, the elements whose key lacks it before those that have it
unfoldable pub by_bits : {X : Type 0} → (X → ℕ) → List ℕ → List X → List X
by_bits key [] xs = xs
by_bits key (bit ∷ bits) [] = []
by_bits key (bit ∷ bits) (x ∷ xs) =
    by_bits key bits (filter (λ x. not (has_bit bit (key x))) (x ∷ xs)) ++ by_bits key bits (filter (λ x. has_bit bit (key x)) (x ∷ xs))

either_part : {X : Type 0} (b : Bool) (found : Option X) → option_or (cond (not b) found None) (cond b found None) ≡ found
either_part true found = refl
either_part false None = refl
either_part false (Some x) = refl

-- a test that only elements with one key pass
module _ {X : Type 0} (key : X → ℕ) (p : X → Bool) (k : ℕ) (keyed : (x : X) → p x ≡ true → key x ≡ k) where
  -- all of these are kept, or none
  find-filter : (q : ℕ → Bool) (xs : List X) → find p (filter (λ x. q (key x)) xs) ≡ cond (q k) (find p xs) None
  find-filter q [] = elim (cases_Bool (q k)) [
    | inl kept ↦ rw kept refl
    | inr gone ↦ rw gone refl
  ]
  find-filter q (x ∷ xs) = elim (cases_Bool (p x)) [
    | inl here ↦
        let same = keyed x here in
        elim (cases_Bool (q k)) [
          | inl kept ↦ rw (same, kept, here) refl
          | inr gone ↦ rw (same, gone) (find-filter q xs ∙ cond-false _ _ _ gone)
        ]
    | inr other ↦ elim (cases_Bool (q (key x))) [
      | inl kept ↦ rw (kept, other) (find-filter q xs)
      | inr gone ↦ rw (gone, other) (find-filter q xs)
    ]
  ]

  find-by_bits : (bits : List ℕ) (xs : List X) → find p (by_bits key bits xs) ≡ find p xs
  unfolding by_bits
  find-by_bits [] xs = refl
  find-by_bits (bit ∷ bits) [] = refl
  find-by_bits (bit ∷ bits) (x ∷ xs) =
      let without = filter (λ x. not (has_bit bit (key x))) (x ∷ xs) in
      let with = filter (λ x. has_bit bit (key x)) (x ∷ xs) in
      find-append p (by_bits key bits without) (by_bits key bits with)
      ∙ ap₂ option_or
      (find-by_bits bits without ∙ find-filter (λ n. not (has_bit bit n)) (x ∷ xs))
      (find-by_bits bits with ∙ find-filter (has_bit bit) (x ∷ xs))
      ∙ either_part (has_bit bit k) (find p (x ∷ xs))

  pub find-ordered : (bits : List ℕ) (xs : List X) → find p (in_order key (by_bits key bits xs)) ≡ find p xs
  find-ordered bits xs =
      find-in_order key p (λ x y first second. keyed x first ∙ sym (keyed y second)) (by_bits key bits xs) ∙ find-by_bits bits xs
