-- Lists of texts.
use Rattle.std.proofs.Common.{◌≡◌, List, [], ◌∷◌, ◌++◌, map, refl, ap}
use Rattle.std.specs.List.{flat_map}

pub flat_map-seen : {A B C : Type 0} (f : B → List C) (g : A → B) (xs : List A) → flat_map (λ x. f (g x)) xs ≡ flat_map f (map g xs)
flat_map-seen f g [] = refl
flat_map-seen {A} {B} {C} f g (x ∷ xs) = ap (λ (ys : List C). f (g x) ++ ys) (flat_map-seen f g xs)
