-- How a loop reads several things, one after the other.
use Rattle.std.proofs.Common.{◌≡◌, ℕ, ◌+◌, ◌<◌, ◌≤◌, List, [], ◌∷◌, ◌++◌, map, length, drop, get_or, Option, Some, Result, Ok, Err, refl, sym, ap, subst, ◌∙◌}
use Rattle.std.proofs.lemmas.List.{append-nil, drop_more, drop_all, map-append, get_or-map, length-map}
use Rattle.contract_words.specs.Faults.{◌>>=◌}
use Rattle.contract_words.specs.Sequences.{with_front}
use Rattle.contract_words.proofs.SequenceSteps.{with_front_nil, with_front-twice}
use Rattle.serde_json.specs.Data.{Data}
use Rattle.serde_json.specs.View.{view, items_view}
use Rattle.serde_json.specs.declared.value.Value.{Value}
use Rattle.json_input.specs.Each.{list_items, each}

-- what was read so far, and what is read of those from a place on, is what is read of all
pub record EachAllBut {A X E : Type 0} (f : A → Result X E) (so_far : List X) (place : ℕ) (all : List A) : Type 0 where
  pub others : with_front so_far (each f (drop place all)) ≡ each f all

pub EachAllBut-none : {A X E : Type 0} (f : A → Result X E) (all : List A) → EachAllBut f [] 0 all
EachAllBut-none f all = record { others = with_front_nil (each f all) }

-- the first of several
pub each-ok : {A X E : Type 0} (f : A → Result X E) (a : A) (others : List A) (x : X) → f a ≡ Ok x → each f (a ∷ others) ≡ with_front (x ∷ []) (each f others)
unfolding each
each-ok {A} {X} {E} f a others x given = ap (λ (r : Result X E). r >>= (λ x. with_front (x ∷ []) (each f others))) given

pub each-err : {A X E : Type 0} (f : A → Result X E) (a : A) (others : List A) (e : E) → f a ≡ Err e → each f (a ∷ others) ≡ Err e
unfolding each
each-err {A} {X} {E} f a others e given = ap (λ (r : Result X E). r >>= (λ x. with_front (x ∷ []) (each f others))) given

-- ---- a loop over a slice

pub EachAllBut-next : {A X E : Type 0} (f : A → Result X E) (so_far : List X) (place : ℕ) (all : List A) (d : A) (x : X)
    → EachAllBut f so_far place all → place < length all → f (get_or all place d) ≡ Ok x → EachAllBut f (so_far ++ x ∷ []) (place + 1) all
EachAllBut-next {A} f so_far place all d x before on given = record {
  others =
      sym (with_front-twice so_far (x ∷ []) (each f (drop (place + 1) all)))
      ∙ ap (with_front so_far) (sym (each-ok f (get_or all place d) (drop (place + 1) all) x given))
      ∙ ap (λ (t : List A). with_front so_far (each f t)) (sym (drop_more all place d on))
      ∙ before.others;
}

pub EachAllBut-stops : {A X E : Type 0} (f : A → Result X E) (so_far : List X) (place : ℕ) (all : List A) (d : A) (e : E)
    → EachAllBut f so_far place all → place < length all → f (get_or all place d) ≡ Err e → each f all ≡ Err e
EachAllBut-stops {A} f so_far place all d e before on given =
    sym before.others
    ∙ ap (λ (t : List A). with_front so_far (each f t)) (drop_more all place d on)
    ∙ ap (with_front so_far) (each-err f (get_or all place d) (drop (place + 1) all) e given)

pub EachAllBut-end : {A X E : Type 0} (f : A → Result X E) (so_far : List X) (place : ℕ) (all : List A)
    → EachAllBut f so_far place all → length all ≤ place → each f all ≡ Ok so_far
unfolding each
EachAllBut-end {A} {X} {E} f so_far place all before past =
    let wrapped : List X → Result (List X) E = λ t. Ok t in
    sym before.others ∙ ap (λ (t : List A). with_front so_far (each f t)) (drop_all place all past) ∙ ap wrapped (append-nil so_far)

-- ---- where what is pushed is seen by a view

pub EachAllBut-next_seen : {A X Y E : Type 0} (f : A → Result Y E) (view_of : X → Y) (so_far : List X) (place : ℕ) (all : List A) (d : A) (x : X)
    → EachAllBut f (map view_of so_far) place all → place < length all → f (get_or all place d) ≡ Ok (view_of x) → EachAllBut f (map view_of (so_far ++ x ∷ [])) (place + 1) all
EachAllBut-next_seen {A} {X} {Y} f view_of so_far place all d x before on given =
    subst (λ (ys : List Y). EachAllBut f ys (place + 1) all) (sym (map-append view_of so_far (x ∷ [])))
    (EachAllBut-next f (map view_of so_far) place all d (view_of x) before on given)

-- ---- where the items are seen by a view

item-seen : {V A : Type 0} (seen : V → A) (items : List V) (place : ℕ) (d : V) → place < length items → get_or (map seen items) place (seen d) ≡ seen (get_or items place d)
item-seen seen items place d on = get_or-map seen items place d (seen d) on

pub EachAllBut-next_item : {V A X E : Type 0} (f : A → Result X E) (seen : V → A) (so_far : List X) (place : ℕ) (items : List V) (d : V) (x : X)
    → EachAllBut f so_far place (map seen items) → place < length items → f (seen (get_or items place d)) ≡ Ok x → EachAllBut f (so_far ++ x ∷ []) (place + 1) (map seen items)
EachAllBut-next_item {V} {A} {X} {E} f seen so_far place items d x before on given =
    EachAllBut-next f so_far place (map seen items) (seen d) x before (simp length-map on) (ap f (item-seen seen items place d on) ∙ given)

pub EachAllBut-next_item_seen : {V A X Y E : Type 0} (f : A → Result Y E) (seen : V → A) (view_of : X → Y) (so_far : List X) (place : ℕ) (items : List V) (d : V) (x : X)
    → EachAllBut f (map view_of so_far) place (map seen items) → place < length items → f (seen (get_or items place d)) ≡ Ok (view_of x)
    → EachAllBut f (map view_of (so_far ++ x ∷ [])) (place + 1) (map seen items)
EachAllBut-next_item_seen f seen view_of so_far place items d x before on given =
    EachAllBut-next_seen f view_of so_far place (map seen items) (seen d) x before (simp length-map on) (ap f (item-seen seen items place d on) ∙ given)

pub EachAllBut-stops_item : {V A X E : Type 0} (f : A → Result X E) (seen : V → A) (so_far : List X) (place : ℕ) (items : List V) (d : V) (e : E)
    → EachAllBut f so_far place (map seen items) → place < length items → f (seen (get_or items place d)) ≡ Err e → each f (map seen items) ≡ Err e
EachAllBut-stops_item f seen so_far place items d e before on given =
    EachAllBut-stops f so_far place (map seen items) (seen d) e before (simp length-map on) (ap f (item-seen seen items place d on) ∙ given)

pub EachAllBut-end_item : {V A X E : Type 0} (f : A → Result X E) (seen : V → A) (so_far : List X) (place : ℕ) (items : List V)
    → EachAllBut f so_far place (map seen items) → length items ≤ place → each f (map seen items) ≡ Ok so_far
EachAllBut-end_item f seen so_far place items before past = EachAllBut-end f so_far place (map seen items) before (simp length-map past)

pub ruleset each_steps = (EachAllBut-none, EachAllBut-next, EachAllBut-next_seen, EachAllBut-stops, EachAllBut-end)

pub ruleset each_item_steps = (EachAllBut-none, EachAllBut-next_item, EachAllBut-next_item_seen, EachAllBut-stops_item, EachAllBut-end_item)

-- the items of a list as they are seen
pub list_items-view : (values : List Value) → list_items (items_view values) ≡ map view values
list_items-view [] = refl
list_items-view (value ∷ values) = ap (λ (t : List Data). view value ∷ t) (list_items-view values)
