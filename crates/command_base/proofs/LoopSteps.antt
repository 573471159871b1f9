-- How a loop makes one list of another.
use Rattle.std.proofs.Common.{◌≡◌, ℕ, ◌+◌, ◌<◌, ◌≤◌, List, [], ◌∷◌, ◌++◌, map, take, length, get_or, Option, Some, None, refl, sym, ap, ◌∙◌, append_assoc}
use Rattle.std.specs.List.{cons_option, filter_map, flat_map}
use Rattle.std.proofs.lemmas.List.{append-nil, map-append, take_more, take_all}

-- ---- where an item gives one or none

-- what all items give is what was made and what those give that are left
pub record GivesAllBut {A B : Type 0} (g : A → Option B) (made : List B) (all left : List A) : Type 0 where
  pub others : made ++ filter_map g left ≡ filter_map g all

pub GivesAllBut-none : {A B : Type 0} (g : A → Option B) (all : List A) → GivesAllBut g [] all all
GivesAllBut-none g all = record { others = refl }

pub GivesAllBut-push : {A B X : Type 0} (view : X → B) (g : A → Option B) (items new : List X) (all left others : List A) (x : A) (item : X)
    → GivesAllBut g (map view items) all left → left ≡ x ∷ others → Some (view item) ≡ g x → new ≡ items ++ item ∷ [] → GivesAllBut g (map view new) all others
GivesAllBut-push {A} {B} {X} view g items new all left others x item before split gives pushed = record {
  others =
      ap (λ (t : List X). map view t ++ filter_map g others) pushed
      ∙ ap (λ (t : List B). t ++ filter_map g others) (map-append view items (item ∷ []))
      ∙ append_assoc (map view items) (view item ∷ []) (filter_map g others)
      ∙ ap (λ (o : Option B). map view items ++ cons_option o (filter_map g others)) gives
      ∙ ap (λ (t : List A). map view items ++ filter_map g t) (sym split)
      ∙ before.others;
}

pub GivesAllBut-skip : {A B : Type 0} (g : A → Option B) (made : List B) (all left others : List A) (x : A)
    → GivesAllBut g made all left → left ≡ x ∷ others → None ≡ g x → GivesAllBut g made all others
GivesAllBut-skip {A} {B} g made all left others x before split gives = record {
  others =
      ap (λ (o : Option B). made ++ cons_option o (filter_map g others)) gives
      ∙ ap (λ (t : List A). made ++ filter_map g t) (sym split)
      ∙ before.others;
}

pub GivesAllBut-end : {A B : Type 0} (g : A → Option B) (made : List B) (all left : List A) → GivesAllBut g made all left → left ≡ [] → made ≡ filter_map g all
GivesAllBut-end {A} g made all left before nothing =
    sym (append-nil made) ∙ ap (λ (t : List A). made ++ filter_map g t) (sym nothing) ∙ before.others

-- ---- where an item gives a list

pub record JoinsAllBut {A B : Type 0} (f : A → List B) (made : List B) (total : List B) (left : List A) : Type 0 where
  pub others : made ++ flat_map f left ≡ total

pub JoinsAllBut-none : {A B : Type 0} (f : A → List B) (made : List B) (all : List A) → JoinsAllBut f made (made ++ flat_map f all) all
JoinsAllBut-none f made all = record { others = refl }

pub JoinsAllBut-next : {A B : Type 0} (f : A → List B) (made more total : List B) (left others : List A) (x : A)
    → JoinsAllBut f made total left → left ≡ x ∷ others → more ≡ made ++ f x → JoinsAllBut f more total others
JoinsAllBut-next {A} {B} f made more total left others x before split joined = record {
  others =
      ap (λ (t : List B). t ++ flat_map f others) joined
      ∙ append_assoc made (f x) (flat_map f others)
      ∙ ap (λ (t : List A). made ++ flat_map f t) (sym split)
      ∙ before.others;
}

-- in two steps
pub JoinsAllBut-both : {A B : Type 0} (f : A → List B) (made mid more total : List B) (left others : List A) (x : A) (first second : List B)
    → JoinsAllBut f made total left → left ≡ x ∷ others → f x ≡ first ++ second → mid ≡ made ++ first → more ≡ mid ++ second → JoinsAllBut f more total others
JoinsAllBut-both {A} {B} f made mid more total left others x first second before split both one other =
    JoinsAllBut-next f made more total left others x before split
    (other ∙ ap (λ (t : List B). t ++ second) one ∙ append_assoc made first second ∙ ap (λ (t : List B). made ++ t) (sym both))

pub JoinsAllBut-end : {A B : Type 0} (f : A → List B) (made total : List B) (left : List A) → JoinsAllBut f made total left → left ≡ [] → made ≡ total
JoinsAllBut-end {A} f made total left before nothing =
    sym (append-nil made) ∙ ap (λ (t : List A). made ++ flat_map f t) (sym nothing) ∙ before.others

-- ---- where each item gives one, and is seen by a view

pub each_seen-next : {X Y V Z : Type 0} (f : X → Z) (view : Y → V) (g : V → Z) (made new : List X) (all : List Y) (i : ℕ) (item : X) (d : Y)
    → map f made ≡ map g (map view (take i all)) → i < length all → f item ≡ g (view (get_or all i d)) → new ≡ made ++ item ∷ []
    → map f new ≡ map g (map view (take (i + 1) all))
each_seen-next {X} {Y} {V} f view g made new all i item d before on is pushed =
    ap (λ (t : List X). map f t) pushed
    ∙ map-append f made (item ∷ [])
    ∙ (λ k. before k ++ is k ∷ [])
    ∙ sym (map-append g (map view (take i all)) (view (get_or all i d) ∷ []))
    ∙ ap (λ (t : List V). map g t) (sym (map-append view (take i all) (get_or all i d ∷ [])))
    ∙ ap (λ (t : List Y). map g (map view t)) (sym (take_more all i d on))

pub each_seen-end : {X Y V Z : Type 0} (f : X → Z) (view : Y → V) (g : V → Z) (made : List X) (all : List Y) (i : ℕ)
    → map f made ≡ map g (map view (take i all)) → length all ≤ i → map f made ≡ map g (map view all)
each_seen-end {X} {Y} f view g made all i before past = before ∙ ap (λ (t : List Y). map g (map view t)) (take_all i all past)
