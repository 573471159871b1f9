-- How a loop pushes one item after the other.
use Rattle.std.proofs.Common.{◌≡◌, List, [], ◌∷◌, ◌++◌, map, ap, sym, ◌∙◌, append_assoc}
use Rattle.std.proofs.lemmas.List.{map-append}

-- behind an item that was pushed come those that are left
pub pushed_more : {X Y : Type 0} (view : X → Y) (before after : List X) (x : X) (here left whole : List Y) → map view before ++ here ≡ whole
    → here ≡ view x ∷ left → after ≡ before ++ x ∷ [] → map view after ++ left ≡ whole
pushed_more {X} {Y} view before after x here left whole all is pushed =
    ap (λ (xs : List X). map view xs ++ left) pushed
    ∙ ap (λ (ys : List Y). ys ++ left) (map-append view before (x ∷ []))
    ∙ append_assoc (map view before) (view x ∷ []) left
    ∙ ap (λ (ys : List Y). map view before ++ ys) (sym is)
    ∙ all
