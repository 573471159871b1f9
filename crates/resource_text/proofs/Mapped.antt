-- How a loop pushes one value for each item of a list.
use Rattle.std.proofs.Common.{◌≡◌, ℕ, ◌+◌, ◌<◌, List, [], ◌∷◌, ◌++◌, length, map, take, get_or, sym, ap, ◌∙◌}
use Rattle.std.proofs.lemmas.List.{map-append, map_more}

pub one-more : {X V D : Type 0} (view : V → D) (of : X → D) (xs : List X) (place : ℕ) (x : X) (old new : List V) (v : V) → place < length xs → x ≡ get_or xs place x
    → map view old ≡ map of (take place xs) → new ≡ old ++ v ∷ [] → view v ≡ of x → map view new ≡ map of (take (place + 1) xs)
one-more {X} {V} {D} view of xs place x old new v on is before put same =
    ap (map view) put
    ∙ map-append view old (v ∷ [])
    ∙ ap (λ (ds : List D). ds ++ view v ∷ []) before
    ∙ ap (λ (d : D). map of (take place xs) ++ d ∷ []) (same ∙ ap of is)
    ∙ sym (map_more of xs place x on)
