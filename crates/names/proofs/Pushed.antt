-- How loops push, one item after the other, and what holds however a call ends.
use Rattle.std.proofs.Common.{◌≡◌, ℕ, ◌+◌, ◌<◌, ◌≤◌, Bool, true, false, cond, Result, Ok, Err, List, [], ◌∷◌, ◌++◌, length, map, filter, take, get_or, sym, ap, ◌∙◌, append_assoc}
use Rattle.std.proofs.lemmas.List.{append-nil, map_more, take_all}
use Rattle.std.proofs.lemmas.List.Elements.{filter_more}
use Rattle.std.specs.Result.{OnOk}

-- ---- an item for each one

pub map-pushed : {X Y : Type 0} (f : X → Y) (xs : List X) (place : ℕ) (d : X) (so_far more : List Y) → place < length xs → so_far ≡ map f (take place xs)
    → more ≡ so_far ++ f (get_or xs place d) ∷ [] → more ≡ map f (take (place + 1) xs)
map-pushed {X} {Y} f xs place d so_far more on before put =
    put ∙ ap (λ (ys : List Y). ys ++ f (get_or xs place d) ∷ []) before ∙ sym (map_more f xs place d on)

-- the same of an item that is lent
pub map-pushed_item : {X Y : Type 0} (f : X → Y) (xs : List X) (place : ℕ) (x : X) (so_far more : List Y) → place < length xs → so_far ≡ map f (take place xs)
    → x ≡ get_or xs place x → more ≡ so_far ++ f x ∷ [] → more ≡ map f (take (place + 1) xs)
map-pushed_item {X} {Y} f xs place x so_far more on before is put = map-pushed f xs place x so_far more on before (put ∙ ap (λ (y : X). so_far ++ f y ∷ []) is)

pub map-all : {X Y : Type 0} (f : X → Y) (xs : List X) (place : ℕ) (so_far : List Y) → so_far ≡ map f (take place xs) → length xs ≤ place → so_far ≡ map f xs
map-all f xs place so_far before past = before ∙ ap (map f) (take_all place xs past)

-- ---- the same, told by what is left

pub map-next : {X Y : Type 0} (f : X → Y) (so_far more all : List Y) (left others : List X) (x : X) → so_far ++ map f left ≡ all → left ≡ x ∷ others → more ≡ so_far ++ f x ∷ []
    → more ++ map f others ≡ all
map-next {X} {Y} f so_far more all left others x before split put =
    ap (λ (ys : List Y). ys ++ map f others) put ∙ append_assoc so_far (f x ∷ []) (map f others) ∙ ap (λ (xs : List X). so_far ++ map f xs) (sym split) ∙ before

pub map-end : {X Y : Type 0} (f : X → Y) (so_far all : List Y) (left : List X) → so_far ++ map f left ≡ all → left ≡ [] → so_far ≡ all
map-end {X} f so_far all left before nothing = sym (append-nil so_far) ∙ ap (λ (xs : List X). so_far ++ map f xs) (sym nothing) ∙ before

-- ---- those that pass a test

pub filter-pushed : {X : Type 0} (test : X → Bool) (xs : List X) (place : ℕ) (d : X) (so_far more : List X) → place < length xs → so_far ≡ filter test (take place xs)
    → test (get_or xs place d) ≡ true → more ≡ so_far ++ get_or xs place d ∷ [] → more ≡ filter test (take (place + 1) xs)
filter-pushed {X} test xs place d so_far more on before says put =
    put
    ∙ ap (λ (ys : List X). ys ++ get_or xs place d ∷ []) before
    ∙ sym (filter_more test xs place d on ∙ ap (λ (b : Bool). filter test (take place xs) ++ cond b (get_or xs place d ∷ []) []) says)

pub filter-passed : {X : Type 0} (test : X → Bool) (xs : List X) (place : ℕ) (d : X) (so_far more : List X) → place < length xs → so_far ≡ filter test (take place xs)
    → test (get_or xs place d) ≡ false → more ≡ so_far → more ≡ filter test (take (place + 1) xs)
filter-passed {X} test xs place d so_far more on before says same =
    same
    ∙ before
    ∙ sym (filter_more test xs place d on ∙ ap (λ (b : Bool). filter test (take place xs) ++ cond b (get_or xs place d ∷ []) []) says ∙ append-nil (filter test (take place xs)))

-- ---- whether a call failed or not

pub on-ok : {T E P : Type 0} (result : Result T E) → P → OnOk result P
on-ok (Ok done) holds = holds
on-ok (Err fault) holds = tt
