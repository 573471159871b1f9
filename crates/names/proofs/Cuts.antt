-- A list, cut at the first element that passes a test.
use Rattle.std.proofs.Common.{◌≡◌, ℕ, zero, suc, ◌+◌, ◌/◌, ◌%◌, Bool, true, false, ◌||◌, List, [], ◌∷◌, ◌++◌, length, get_or, take, drop, refl, sym, ap, ◌∙◌, arith}
use Rattle.std.proofs.lemmas.List.{take_at, drop_at, append_assoc, get_or_append_left, get_or_at, length_push}
use Rattle.std.proofs.lemmas.List.Sums.{position_or_len_is}
use Rattle.std.proofs.lemmas.Grind.{common_steps}
use Rattle.hex.specs.Hex.{encode_with}
use Rattle.std.specs.List.{list_any, slice_split, before_first, after_first, position_or_len}

-- no element passes
abbrev pub Lacks : (ℕ → Bool) → List ℕ → Type 0
Lacks p xs = list_any p xs ≡ false

pub neither : (a b : Bool) → (a || b) ≡ false → (a ≡ false) × (b ≡ false)
neither true b e = absurd cc
neither false b e = (refl, e)

pub any-at : (p : ℕ → Bool) (xs ys : List ℕ) (c : ℕ) → p c ≡ true → list_any p (xs ++ c ∷ ys) ≡ true
any-at p [] ys c on = rw on refl
any-at p (x ∷ xs) ys c on = let rest = any-at p xs ys c on in elim (p x) as (λ b. (b || list_any p (xs ++ c ∷ ys)) ≡ true) [ true ↦ refl | false ↦ rest ]

-- a place, or the default, does not pass either
pub at-fails : (p : ℕ → Bool) (xs : List ℕ) (i : ℕ) → p 0 ≡ false → Lacks p xs → p (get_or xs i 0) ≡ false
at-fails p [] i none lacks = none
at-fails p (x ∷ xs) zero none lacks = (neither (p x) (list_any p xs) lacks).0
at-fails p (x ∷ xs) (suc i) none lacks = at-fails p xs i none (neither (p x) (list_any p xs) lacks).1

place-at : (p : ℕ → Bool) (xs ys : List ℕ) (c : ℕ) → p 0 ≡ false → Lacks p xs → p c ≡ true → position_or_len p (xs ++ c ∷ ys) ≡ length xs
place-at p xs ys c none lacks on =
    position_or_len_is p (xs ++ c ∷ ys) (length xs) 0 (grind (arith, common_steps))
    (λ k lt. rw get_or_append_left (at-fails p xs k none lacks)) (λ _. rw (get_or_at xs c ys 0 (length xs) refl) on)

pub before-at : (p : ℕ → Bool) (xs ys : List ℕ) (c : ℕ) → p 0 ≡ false → Lacks p xs → p c ≡ true → before_first p (xs ++ c ∷ ys) ≡ xs
before-at p xs ys c none lacks on = ap (λ (n : ℕ). take n (xs ++ c ∷ ys)) (place-at p xs ys c none lacks on) ∙ take_at xs (c ∷ ys) (length xs) refl

pub after-at : (p : ℕ → Bool) (xs ys : List ℕ) (c : ℕ) → p 0 ≡ false → Lacks p xs → p c ≡ true → after_first p (xs ++ c ∷ ys) ≡ ys
after-at p xs ys c none lacks on =
    ap (λ (n : ℕ). drop (n + 1) (xs ++ c ∷ ys)) (place-at p xs ys c none lacks on)
    ∙ ap (drop (length xs + 1)) (sym (append_assoc xs (c ∷ []) ys)) ∙ drop_at (xs ++ c ∷ []) ys (length xs + 1) (length_push xs c)

pub split-at : (p : ℕ → Bool) (xs ys : List ℕ) (c : ℕ) → Lacks p xs → p c ≡ true → slice_split p (xs ++ c ∷ ys) ≡ xs ∷ slice_split p ys
split-at p [] ys c lacks on = rw on refl
split-at p (x ∷ xs) ys c lacks on =
    let parts = neither (p x) (list_any p xs) lacks in
    rw (parts.0, split-at p xs ys c parts.1 on) refl

pub split-none : (p : ℕ → Bool) (xs : List ℕ) → Lacks p xs → slice_split p xs ≡ xs ∷ []
split-none p [] lacks = refl
split-none p (x ∷ xs) lacks =
    let parts = neither (p x) (list_any p xs) lacks in
    rw (parts.0, split-none p xs parts.1) refl

-- digits lack what no digit of their table passes
pub encoded-lacks : (p : ℕ → Bool) (table bytes : List ℕ) → p 0 ≡ false → Lacks p table → Lacks p (encode_with table bytes)
unfolding encode_with
encoded-lacks p table [] none lacks = refl
encoded-lacks p table (b ∷ bytes) none lacks =
    rw (at-fails p table (b / 16) none lacks, at-fails p table (b % 16) none lacks) (encoded-lacks p table bytes none lacks)
