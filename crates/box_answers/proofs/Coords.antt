-- Coordinate by coordinate, in their order.
use Rattle.std.proofs.Common.{◌≡◌, ℕ, ◌+◌, ◌<◌, ◌≤◌, ◌≢◌, List, length, get_or, refl, sym, ap, subst, ◌∙◌, arith}
use Rattle.std.proofs.lemmas.List.{get_or_default}
use Rattle.config_precedence.specs.config_record.declared.coord.Coord.{Coord}
use Rattle.config_precedence.specs.config_record.declared.coord.Coord.TheVariants as coords
use Rattle.config_precedence.specs.config_record.Coord.{all_coords, place_of}
use Rattle.config_precedence.proofs.config_record.DeviceLemmas.{coordinate-at_place, place_of-within}
use Rattle.config_precedence.proofs.config_record.ChangedNumber.{by_coord}

pub all_coords-count : length all_coords ≡ 25
unfolding all_coords
all_coords-count = refl

pub place_of-below : (c : Coord) → place_of c < 25
place_of-below c = omega (arith, place_of-within c, all_coords-count)

-- what holds of the coordinates before a place, and of the one there, holds of those before the next
pub next-coord : (P : Coord → Type 0) (i : ℕ) (here : Coord) (items : List Coord) (d : Coord) → items ≡ all_coords → here ≡ get_or items i d → i < length items
    → ((c : Coord) → place_of c < i → P c) → P here → (c : Coord) → place_of c < i + 1 → P c
next-coord P i here items d all is on before now c q =
    by_coord c here
    (λ e. subst P (sym e) now)
    (λ ne. before c (not_here c ne q))
  where
    at_place : (c : Coord) → place_of c ≡ i → c ≡ here
    at_place c e =
        sym (coordinate-at_place c)
        ∙ ap (λ k. get_or all_coords k coords.Mcc) e
        ∙ get_or_default all_coords i coords.Mcc d (omega (arith, ap (λ (cs : List Coord). length cs) all))
        ∙ ap (λ (cs : List Coord). get_or cs i d) (sym all)
        ∙ sym is

    not_here : (c : Coord) → c ≢ here → place_of c < i + 1 → place_of c < i
    not_here c ne q = let far : place_of c ≢ i = λ e. ne (at_place c e) in omega arith

-- at the end it holds of all
pub every-coord : (P : Coord → Type 0) (i : ℕ) (items : List Coord) → items ≡ all_coords → length items ≤ i → ((c : Coord) → place_of c < i → P c) → (c : Coord) → P c
every-coord P i items all past so_far c = so_far c (omega (arith, place_of-below c, all_coords-count, ap (λ (cs : List Coord). length cs) all))
