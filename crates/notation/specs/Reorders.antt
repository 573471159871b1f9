-- Lists that have the same items in another order.
use Rattle.std.specs.Prelude.{List, [], ◌∷◌}

pub data Reorders {X : Type 0} : List X → List X → Type 0 where
  nothing : Reorders [] []
  one_more : (x : X) (xs ys : List X) → Reorders xs ys → Reorders (x ∷ xs) (x ∷ ys)
  exchanged : (x y : X) (xs : List X) → Reorders (x ∷ y ∷ xs) (y ∷ x ∷ xs)
  in_steps : (xs ys zs : List X) → Reorders xs ys → Reorders ys zs → Reorders xs zs
