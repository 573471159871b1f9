-- How pieces are put one behind the other.
use Rattle.std.proofs.Common.{◌≡◌, ℕ, ◌+◌, ◌<◌, ◌≤◌, List, ◌∷◌, ◌++◌, length, drop, get_or, refl, sym, ap, ◌∙◌, append_assoc}
use Rattle.std.proofs.lemmas.List.{append-nil, drop_more, drop_all}
use Rattle.std.specs.List.{flat_map}

-- the item at a place, and those behind it
pub split_at : {V : Type 0} (items : List V) (place : ℕ) (item : V) → place < length items → item ≡ get_or items place item → drop place items ≡ item ∷ drop (place + 1) items
split_at {V} items place item on is = drop_more items place item on ∙ ap (λ (first : V). first ∷ drop (place + 1) items) (sym is)

-- with the pieces of the items that are left, all are put
pub record JoinsBut {V X : Type 0} (piece : V → List X) (so_far : List X) (left : List V) (all : List X) : Type 0 where
  pub others : so_far ++ flat_map piece left ≡ all

pub JoinsBut-none : {V X : Type 0} (piece : V → List X) (start : List X) (items : List V) → JoinsBut piece start items (start ++ flat_map piece items)
JoinsBut-none piece start items = record { others = refl }

pub JoinsBut-next : {V X : Type 0} (piece : V → List X) (so_far more : List X) (left others : List V) (item : V) (all : List X)
    → JoinsBut piece so_far left all → left ≡ item ∷ others → more ≡ so_far ++ piece item → JoinsBut piece more others all
JoinsBut-next {V} {X} piece so_far more left others item all before split put = record {
  others =
      ap (λ (xs : List X). xs ++ flat_map piece others) put
      ∙ append_assoc so_far (piece item) (flat_map piece others)
      ∙ ap (λ (items : List V). so_far ++ flat_map piece items) (sym split)
      ∙ before.others;
}

pub JoinsBut-end : {V X : Type 0} (piece : V → List X) (so_far : List X) (items : List V) (place : ℕ) (all : List X)
    → JoinsBut piece so_far (drop place items) all → length items ≤ place → so_far ≡ all
JoinsBut-end {V} {X} piece so_far items place all before past =
    sym (append-nil so_far) ∙ ap (λ (left : List V). so_far ++ flat_map piece left) (sym (drop_all place items past)) ∙ before.others
