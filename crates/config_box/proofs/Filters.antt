-- What a filter keeps.
use Rattle.std.proofs.Common.{◌≡◌, ℕ, ◌+◌, ◌<◌, ◌≤◌, ◌⊎◌, inl, inr, arith, zero, suc, List, [], ◌∷◌, ◌++◌, length, take, drop, map, get_or, Bool, true, false, eqb, filter, sym, ◌∙◌, ap, refl}
use Rattle.std.specs.Prelude.{◌||◌, cond, Contains, if◌then◌else◌}
use Rattle.std.specs.List.{list_any}
use Rattle.std.proofs.lemmas.Bool.{eq-eqb, eqb-true}
use Rattle.std.proofs.lemmas.List.{append-nil, at_drop_more, at_drop_all}
use Rattle.std.proofs.lemmas.List.Elements.{All-contains, All-filter, All-contains_itself, filter_passes, filter_more}
use Rattle.std.proofs.lemmas.List.Folds.{list_any_at}
use Rattle.std.proofs.lemmas.Map.Views.{Contains-from_any, any-filter_same}

abbrev pub Among : {X : Type 0} → X → List X → Type 0
Among v [] = ⊥
Among v (x ∷ xs) = (x ≡ v) ⊎ Among v xs

among-at : (v : ℕ) (xs : List ℕ) (k : ℕ) → k < length xs → get_or xs k v ≡ v → Among v xs
among-at v [] k p e = absurd (omega arith)
among-at v (x ∷ xs) zero p e = inl e
among-at v (x ∷ xs) (suc k) p e = inr (among-at v xs k (omega arith) e)

pub among : (v : ℕ) (xs : List ℕ) → Contains xs v → Among v xs
among v xs c = among-at v xs c.0 c.1 c.2

pub contained : (v : ℕ) (xs : List ℕ) → Among v xs → Contains xs v
contained v (x ∷ xs) (inl e) = (zero, omega arith, e)
contained v (x ∷ xs) (inr a) = let c = contained v xs a in (suc c.0, omega (arith, c.1), c.2)
contained v [] a = absurd a

-- what is kept is in the list and passes, and what is in the list and passes is kept
pub kept-in : (p : ℕ → Bool) (v : ℕ) (xs : List ℕ) → Contains (filter p xs) v → Contains xs v × (p v ≡ true)
kept-in p v xs c = (All-contains (Contains xs) (filter p xs) v (All-filter p (Contains xs) xs (All-contains_itself xs)) c, All-contains (λ x. p x ≡ true) (filter p xs) v (filter_passes p xs) c)

pub kept-all : (p : ℕ → Bool) (v : ℕ) (xs : List ℕ) → Contains xs v → p v ≡ true → Contains (filter p xs) v
kept-all p v xs c e =
    let stands : list_any (eqb v) xs ≡ true = list_any_at (eqb v) xs c.0 v c.1 (eq-eqb v (get_or xs c.0 v) (sym c.2)) in
    let kept : list_any (eqb v) (filter p xs) ≡ list_any (eqb v) xs = any-filter_same (eqb v) p true (λ x same. ap p (sym (eqb-true v x same)) ∙ e) xs in
    Contains-from_any {eq = eqb} eqb-true v (filter p xs) (kept ∙ stands)

pub among-kept : (p : ℕ → Bool) (v : ℕ) (xs : List ℕ) → Among v (filter p xs) → Among v xs × (p v ≡ true)
among-kept p v xs a = let r = kept-in p v xs (contained v (filter p xs) a) in (among v xs r.0, r.1)

pub kept-among : (p : ℕ → Bool) (v : ℕ) (xs : List ℕ) → Among v xs → p v ≡ true → Among v (filter p xs)
kept-among p v xs a e = among v (filter p xs) (kept-all p v xs (contained v xs a) e)

-- a filter of what a function gives
map-cond : {X : Type 0} (b : Bool) (f : X → ℕ) (x : X) (xs : List X) (ys : List ℕ) → map f xs ≡ ys → map f (if b then x ∷ xs else xs) ≡ (if b then f x ∷ ys else ys)
map-cond true f x xs ys e = ap (λ (t : List ℕ). f x ∷ t) e
map-cond false f x xs ys e = e

pub map-filter : {X : Type 0} (f : X → ℕ) (p : ℕ → Bool) (xs : List X) → map f (filter (λ x. p (f x)) xs) ≡ filter p (map f xs)
map-filter f p [] = refl
map-filter f p (x ∷ xs) = map-cond (p (f x)) f x (filter (λ y. p (f y)) xs) (filter p (map f xs)) (map-filter f p xs)

-- ---- a loop that keeps what passes

pub kept-next : {X : Type 0} (p : X → Bool) (xs kept new : List X) (i : ℕ) (d : X) → kept ≡ filter p (take i xs) → i < length xs → p (get_or xs i d) ≡ true → new ≡ kept ++ get_or xs i d ∷ []
    → new ≡ filter p (take (i + 1) xs)
kept-next {X} p xs kept new i d so_far on passes is =
    is
    ∙ ap (λ (l : List X). l ++ get_or xs i d ∷ []) so_far
    ∙ ap (λ (b : Bool). filter p (take i xs) ++ cond b (get_or xs i d ∷ []) []) (sym passes)
    ∙ sym (filter_more p xs i d on)

pub left-next : {X : Type 0} (p : X → Bool) (xs kept : List X) (i : ℕ) (d : X) → kept ≡ filter p (take i xs) → i < length xs → p (get_or xs i d) ≡ false → kept ≡ filter p (take (i + 1) xs)
left-next {X} p xs kept i d so_far on passes =
    so_far
    ∙ sym (append-nil (filter p (take i xs)))
    ∙ ap (λ (b : Bool). filter p (take i xs) ++ cond b (get_or xs i d ∷ []) []) (sym passes)
    ∙ sym (filter_more p xs i d on)

-- ---- a loop that looks for one that passes: F is the answer for what is left

pub any-here : {X : Type 0} (q : X → Bool) (F : List X → Bool) (xs : List X) (i : ℕ) (d : X) → ((x : X) (rest : List X) → F (x ∷ rest) ≡ q x || F rest) → F (drop i xs) ≡ F xs → i < length xs → q (get_or xs i d) ≡ true → true ≡ F xs
any-here {X} q F xs i d step so_far on passes =
    ap (λ (b : Bool). b || F (drop (i + 1) xs)) (sym passes) ∙ sym (step (get_or xs i d) (drop (i + 1) xs)) ∙ sym (at_drop_more F xs i d on) ∙ so_far

pub any-next : {X : Type 0} (q : X → Bool) (F : List X → Bool) (xs : List X) (i : ℕ) (d : X) → ((x : X) (rest : List X) → F (x ∷ rest) ≡ q x || F rest) → F (drop i xs) ≡ F xs → i < length xs → q (get_or xs i d) ≡ false
    → F (drop (i + 1) xs) ≡ F xs
any-next {X} q F xs i d step so_far on passes =
    ap (λ (b : Bool). b || F (drop (i + 1) xs)) (sym passes) ∙ sym (step (get_or xs i d) (drop (i + 1) xs)) ∙ sym (at_drop_more F xs i d on) ∙ so_far

pub any-end : {X : Type 0} (F : List X → Bool) (xs : List X) (i : ℕ) → F [] ≡ false → F (drop i xs) ≡ F xs → length xs ≤ i → false ≡ F xs
any-end F xs i none so_far past = sym none ∙ sym (at_drop_all F xs i past) ∙ so_far
