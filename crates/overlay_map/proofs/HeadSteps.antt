-- Heads that are set.
use Rattle.std.proofs.Common.{◌≡◌, ℕ, zero, suc, ◌<◌, ◌≤◌, ◌^◌, Bool, true, false, List, [], ◌∷◌, ◌++◌, length, take, replicate, Option, Result, Ok, Err, OnOk, set, get_or, slice_get, refl, sym, ap, subst, ◌∙◌, arith}
use Rattle.std.specs.Prelude.{◌==◌, ◌&&◌, ◌/◌, ◌%◌, if◌then◌else◌}
use Rattle.std.specs.Option.{option_map_or}
use Rattle.std.proofs.lemmas.List.{take_all}
use Rattle.std.proofs.lemmas.Option.{slice_get_past}
use Rattle.std.proofs.lemmas.Bool.Decides.{nat_tests}

pub on-ok : {T E P : Type 0} (r : Result T E) → P → OnOk r P
on-ok (Ok x) p = p
on-ok (Err e) p = tt

module _ {X : Type 0} (h : X → ℕ) where
  -- the number of the item of an index; 0 past the end
  abbrev pub number_at : List X → ℕ → ℕ
  number_at xs i = option_map_or h (slice_get xs i) 0

  -- items without a number at the end change nothing
  pub number_at-padded : (xs : List X) (n : ℕ) (x : X) (i : ℕ) → h x ≡ 0 → number_at (xs ++ replicate n x) i ≡ number_at xs i
  number_at-padded [] zero x i none = refl
  number_at-padded [] (suc n) x zero none = none
  number_at-padded [] (suc n) x (suc i) none = number_at-padded [] n x i none
  number_at-padded (y ∷ xs) n x zero none = refl
  number_at-padded (y ∷ xs) n x (suc i) none = number_at-padded xs n x i none

  pub number_at-push : (xs : List X) (x : X) (i : ℕ) → h x ≡ 0 → number_at (xs ++ x ∷ []) i ≡ number_at xs i
  number_at-push xs x i none = number_at-padded xs 1 x i none

  pub number_at-set_same : (xs : List X) (i : ℕ) (x : X) → i < length xs → number_at (set xs i x) i ≡ h x
  number_at-set_same [] i x within = absurd (omega arith)
  number_at-set_same (y ∷ xs) zero x within = refl
  number_at-set_same (y ∷ xs) (suc i) x within = number_at-set_same xs i x (omega arith)

  pub number_at-set_other : (xs : List X) (i j : ℕ) (x : X) → (i == j) ≡ false → number_at (set xs i x) j ≡ number_at xs j
  number_at-set_other [] i j x other = refl
  number_at-set_other (y ∷ xs) zero zero x other = absurd cc
  number_at-set_other (y ∷ xs) zero (suc j) x other = refl
  number_at-set_other (y ∷ xs) (suc i) zero x other = refl
  number_at-set_other (y ∷ xs) (suc i) (suc j) x other = number_at-set_other xs i j x (grind (arith, nat_tests))

  -- the number of an item that is read
  pub number_at-read : (xs : List X) (i : ℕ) (x : X) → i < length xs → x ≡ get_or xs i x → number_at xs i ≡ h x
  number_at-read [] i x within is = absurd (omega arith)
  number_at-read (y ∷ xs) zero x within is = ap h (sym is)
  number_at-read (y ∷ xs) (suc i) x within is = number_at-read xs i x (omega arith) is

  -- a list that is made longer
  pub number_at-longer : (xs ys : List X) (n m : ℕ) (x : X) (i : ℕ) → ys ≡ take n xs ++ replicate m x → length xs ≤ n → h x ≡ 0 → number_at ys i ≡ number_at xs i
  number_at-longer xs ys n m x i is few none =
      ap (λ (l : List X). number_at l i) is ∙ ap (λ (l : List X). number_at (l ++ replicate m x) i) (take_all n xs few) ∙ number_at-padded xs m x i none

  pub number_at-past : (xs : List X) (i : ℕ) → length xs ≤ i → number_at xs i ≡ 0
  number_at-past xs i past = ap (λ (found : Option X). option_map_or h found 0) (slice_get_past xs i past)

  -- an item is put in the place of another
  pub number_at-put : (xs : List X) (i j : ℕ) (y : X) → i < length xs → number_at (set xs i y) j ≡ (if i == j then h y else number_at xs j)
  number_at-put xs i j y within = by (i == j) refl
    where
      by : (b : Bool) → (i == j) ≡ b → number_at (set xs i y) j ≡ (if b then h y else number_at xs j)
      by true e =
          let here : i ≡ j = grind (arith, nat_tests) in
          subst (λ (n : ℕ). number_at (set xs i y) n ≡ h y) here (number_at-set_same xs i y within)
      by false e = number_at-set_other xs i j y e

  -- and has the same number
  pub number_at-kept : (xs : List X) (i j : ℕ) (x y : X) → i < length xs → x ≡ get_or xs i x → h y ≡ h x → number_at (set xs i y) j ≡ number_at xs j
  number_at-kept xs i j x y within is same = by (i == j) refl
    where
      by : (b : Bool) → (i == j) ≡ b → number_at (set xs i y) j ≡ number_at xs j
      by true e =
          let here : i ≡ j = grind (arith, nat_tests) in
          subst (λ (n : ℕ). number_at (set xs i y) n ≡ number_at xs n) here (number_at-set_same xs i y within ∙ same ∙ sym (number_at-read xs i x within is))
      by false e = number_at-set_other xs i j y e

-- an item that is changed at one key, by h at a key
pub number_at-changed : {X K : Type 0} (h : K → X → ℕ) (same : K → Bool) (xs : List X) (i : ℕ) (x y : X) (v : ℕ) → i < length xs → x ≡ get_or xs i x
    → ((key : K) → h key y ≡ (if same key then v else h key x))
    → (other : ℕ) (key : K) → number_at (h key) (set xs i y) other ≡ (if i == other && same key then v else number_at (h key) xs other)
number_at-changed {X} {K} h same xs i x y v within is changes other key = by (i == other) refl
  where
    by : (b : Bool) → (i == other) ≡ b → number_at (h key) (set xs i y) other ≡ (if b && same key then v else number_at (h key) xs other)
    by true e =
        let here : i ≡ other = grind (arith, nat_tests) in
        subst (λ (n : ℕ). number_at (h key) (set xs i y) n ≡ (if same key then v else number_at (h key) xs n)) here
        (number_at-set_same (h key) xs i y within ∙ changes key ∙ ap (λ (n : ℕ). if same key then v else n) (sym (number_at-read (h key) xs i x within is)))
    by false e = number_at-set_other (h key) xs i other y e

-- an id is its parts
pub id-parts : (id other : ℕ) → (id == other) ≡ (id / 2 ^ 24 == other / 2 ^ 24 && (id / 2 ^ 16 % 2 ^ 8 == other / 2 ^ 16 % 2 ^ 8 && id % 2 ^ 16 == other % 2 ^ 16))
id-parts id other = grind (arith, nat_tests)
