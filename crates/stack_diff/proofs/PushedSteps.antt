-- How a loop pushes, told by what is left.
use Rattle.std.proofs.Common.{◌≡◌, ℕ, ◌+◌, ◌<◌, List, [], ◌∷◌, ◌++◌, length, map, drop, get_or, append-nil, append_assoc, sym, ap, ◌∙◌}
use Rattle.std.proofs.lemmas.List.{drop_more}

pub map-next : {X Y : Type 0} (f : X → Y) (so_far more all : List Y) (left others : List X) (x : X) → so_far ++ map f left ≡ all → left ≡ x ∷ others → more ≡ so_far ++ f x ∷ []
    → more ++ map f others ≡ all
map-next {X} {Y} f so_far more all left others x before split put =
    ap (λ (ys : List Y). ys ++ map f others) put ∙ append_assoc so_far (f x ∷ []) (map f others) ∙ ap (λ (xs : List X). so_far ++ map f xs) (sym split) ∙ before

pub map-end : {X Y : Type 0} (f : X → Y) (so_far all : List Y) (left : List X) → so_far ++ map f left ≡ all → left ≡ [] → so_far ≡ all
map-end {X} f so_far all left before nothing = sym (append-nil so_far) ∙ ap (λ (xs : List X). so_far ++ map f xs) (sym nothing) ∙ before

-- the same of a slice, by a place
pub map-drop : {X Y : Type 0} (f : X → Y) (so_far more all : List Y) (xs : List X) (place : ℕ) (d : X) → so_far ++ map f (drop place xs) ≡ all → place < length xs → more ≡ so_far ++ f (get_or xs place d) ∷ []
    → more ++ map f (drop (place + 1) xs) ≡ all
map-drop f so_far more all xs place d before on put = map-next f so_far more all (drop place xs) (drop (place + 1) xs) (get_or xs place d) before (drop_more xs place d on) put
