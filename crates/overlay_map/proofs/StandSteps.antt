-- Lists of which each item gives something.
use Rattle.std.proofs.Common.{◌≡◌, List, [], ◌∷◌, map, Option, Some, None, refl, sym, ap, ◌∙◌, arith}
use Rattle.std.specs.List.{filter_map}
use Rattle.std.specs.Iterator.{YieldsFirstBy}
use Rattle.std.specs.Option.{option_map}
use Rattle.std.proofs.lemmas.Grind.{common_steps}

module _ {X Y : Type 0} (h : X → Option Y) where
  -- where h gives each item of a list, `filter_map` gives that list
  pub filter_map-all : (xs : List X) (ys : List Y) → map h xs ≡ map Some ys → filter_map h xs ≡ ys
  filter_map-all [] [] all = refl
  filter_map-all [] (y ∷ ys) all = absurd (grind arith)
  filter_map-all (x ∷ xs) [] all = absurd (grind arith)
  filter_map-all (x ∷ xs) (y ∷ ys) all = grind (arith, common_steps, filter_map-all xs ys)

  -- h gives something of each item
  abbrev pub GivesAll : List X → Type 0
  GivesAll xs = map h xs ≡ map Some (filter_map h xs)

  pub GivesAll-all : (xs : List X) (ys : List Y) → map h xs ≡ map Some ys → GivesAll xs
  GivesAll-all xs ys all = all ∙ ap (λ (l : List Y). map Some l) (sym (filter_map-all xs ys all))

  nothing_first : (x : X) (xs : List X) (ys : List Y) → h x ∷ map h xs ≡ map Some ys → h x ≡ None → ⊥
  nothing_first x xs [] e none = grind arith
  nothing_first x xs (y ∷ ys) e none = grind arith

  GivesAll-first : (x : X) (xs : List X) → GivesAll (x ∷ xs) → h x ≡ None → ⊥
  GivesAll-first x xs all none = nothing_first x xs (filter_map h (x ∷ xs)) all none

  pub GivesAll-tail : (x : X) (xs : List X) → GivesAll (x ∷ xs) → GivesAll xs
  GivesAll-tail x xs all = by (h x) refl
    where
      by : (found : Option Y) → h x ≡ found → GivesAll xs
      by None e = absurd (GivesAll-first x xs all e)
      by (Some y) e = grind (arith, common_steps)

  -- the item that is given first
  pub GivesAll-yields : {Z : Type 0} (view : Z → Y) (x : X) (xs : List X) (found : Option Z) → GivesAll (x ∷ xs) → option_map view found ≡ h x
      → YieldsFirstBy view (λ s. s) (filter_map h (x ∷ xs)) found (filter_map h xs)
  GivesAll-yields view x xs None all is = absurd (GivesAll-first x xs all (sym is))
  GivesAll-yields view x xs (Some z) all is = rw (sym is) refl

pub ruleset stand_steps = (GivesAll-all, filter_map-all)
