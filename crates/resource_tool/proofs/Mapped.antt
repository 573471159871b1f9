-- How a loop pushes one item, or several, for each item of a list.
use Rattle.std.proofs.Common.{◌≡◌, ℕ, ◌+◌, ◌<◌, List, [], ◌∷◌, ◌++◌, map, take, length, get_or, sym, ap, ◌∙◌, append_assoc}
use Rattle.std.specs.List.{flat_map}
use Rattle.std.proofs.lemmas.List.{take_more, map-append, append-nil}
use Rattle.std.proofs.lemmas.Grind.{flat_map-append}

-- one for each
pub one-more : {X A B : Type 0} (seen : X → B) (of : A → B) (base : List B) (xs more : List X) (all : List A) (i : ℕ) (x : X) (a : A) → i < length all → a ≡ get_or all i a
    → map seen xs ≡ base ++ map of (take i all) → more ≡ xs ++ x ∷ [] → seen x ≡ of a → map seen more ≡ base ++ map of (take (i + 1) all)
one-more {X} {A} {B} seen of base xs more all i x a within here before pushed is =
    ap (map seen) pushed
    ∙ map-append seen xs (x ∷ [])
    ∙ ap (λ (front : List B). front ++ seen x ∷ []) before
    ∙ append_assoc base (map of (take i all)) (seen x ∷ [])
    ∙ ap (λ (b : B). base ++ (map of (take i all) ++ b ∷ [])) (is ∙ ap of here)
    ∙ ap (λ (end : List B). base ++ end) (sym (map-append of (take i all) (get_or all i a ∷ [])))
    ∙ ap (λ (front : List A). base ++ map of front) (sym (take_more all i a within))

-- several for each
pub all-more : {A B C : Type 0} (view : A → C) (of : C → List B) (before after : List B) (all : List A) (i : ℕ) (a : A) → i < length all → a ≡ get_or all i a
    → before ≡ flat_map of (map view (take i all)) → after ≡ before ++ of (view a) → after ≡ flat_map of (map view (take (i + 1) all))
all-more {A} {B} {C} view of before after all i a within here so_far pushed =
    pushed
    ∙ ap (λ (front : List B). front ++ of (view a)) so_far
    ∙ ap (λ (end : List B). flat_map of (map view (take i all)) ++ end) (sym (append-nil (of (view a))))
    ∙ sym (flat_map-append of (map view (take i all)) (view a ∷ []))
    ∙ ap (flat_map of) (ap (λ (it : A). map view (take i all) ++ view it ∷ []) here ∙ sym (map-append view (take i all) (get_or all i a ∷ [])) ∙ ap (map view) (sym (take_more all i a within)))
