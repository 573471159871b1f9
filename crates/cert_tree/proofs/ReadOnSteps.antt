-- How items are read of which each depends on what was read before it.
use Rattle.std.proofs.Common.{◌≡◌, ◌+◌, List, [], ◌∷◌, ◌++◌, length, length-append, Result, Ok, Err, refl, ap, ◌∙◌, arith}
use Rattle.contract_words.specs.Faults.{◌>>=◌}
use Rattle.cert_tree.specs.ReadOn.{read_on}

pub read_on-ok : {A X E : Type 0} (f : List X → A → Result X E) (before : List X) (item : A) (items : List A) (x : X) → f before item ≡ Ok x
    → read_on f before (item ∷ items) ≡ read_on f (before ++ x ∷ []) items
unfolding read_on
read_on-ok {A} {X} {E} f before item items x given = ap (λ (r : Result X E). r >>= (λ y. read_on f (before ++ y ∷ []) items)) given

pub read_on-err : {A X E : Type 0} (f : List X → A → Result X E) (before : List X) (item : A) (items : List A) (e : E) → f before item ≡ Err e
    → read_on f before (item ∷ items) ≡ Err e
unfolding read_on
read_on-err {A} {X} {E} f before item items e given = ap (λ (r : Result X E). r >>= (λ y. read_on f (before ++ y ∷ []) items)) given

pub read_on-none : {A X E : Type 0} (f : List X → A → Result X E) (before : List X) → read_on f before [] ≡ Ok before
unfolding read_on
read_on-none f before = refl

read_on-append : {A X E : Type 0} (f : List X → A → Result X E) (start : List X) (before others : List A) → read_on f start (before ++ others) ≡ (read_on f start before >>= λ so_far. read_on f so_far others)
unfolding read_on
read_on-append f start [] others = refl
read_on-append {A} {X} {E} f start (a ∷ before) others = one (f start a) (λ x. read_on-append f (start ++ x ∷ []) before others)
  where
    one : (r : Result X E) → ((x : X) → read_on f (start ++ x ∷ []) (before ++ others) ≡ (read_on f (start ++ x ∷ []) before >>= λ so_far. read_on f so_far others))
        → (r >>= λ x. read_on f (start ++ x ∷ []) (before ++ others)) ≡ ((r >>= λ x. read_on f (start ++ x ∷ []) before) >>= λ so_far. read_on f so_far others)
    one (Ok x) later = later x
    one (Err fault) later = refl

-- what is read of some items, and of those behind them
pub read_on-after : {A X E : Type 0} (f : List X → A → Result X E) (before others : List A) (so_far : List X) → read_on f [] before ≡ Ok so_far → read_on f [] (before ++ others) ≡ read_on f so_far others
read_on-after {A} {X} {E} f before others so_far e = read_on-append f [] before others ∙ ap (λ (r : Result (List X) E). r >>= λ so_far. read_on f so_far others) e

-- what is read of the items before and of one more
pub read_on-one_more : {A X E : Type 0} (f : List X → A → Result X E) (before : List A) (a : A) (so_far : List X) (r : Result X E) → read_on f [] before ≡ Ok so_far → f so_far a ≡ r
    → read_on f [] (before ++ a ∷ []) ≡ (r >>= λ x. Ok (so_far ++ x ∷ []))
unfolding read_on
read_on-one_more {A} {X} {E} f before a so_far r e is =
    read_on-after f before (a ∷ []) so_far e
    ∙ ap (λ (r : Result X E). r >>= λ x. Ok (so_far ++ x ∷ [])) is

-- what stands behind the first fault does not matter
pub read_on-stops : {A X E : Type 0} (f : List X → A → Result X E) (before others : List A) (fault : E) → read_on f [] before ≡ Err fault → read_on f [] (before ++ others) ≡ Err fault
read_on-stops {A} {X} {E} f before others fault e = read_on-append f [] before others ∙ ap (λ (r : Result (List X) E). r >>= λ so_far. read_on f so_far others) e

abbrev ok_items : {X E : Type 0} → Result (List X) E → List X
ok_items (Ok xs) = xs
ok_items (Err fault) = []

pub read_on-length : {A X E : Type 0} (f : List X → A → Result X E) (before : List X) (items : List A) (xs : List X) → read_on f before items ≡ Ok xs → length xs ≡ length before + length items
unfolding read_on
read_on-length f before [] xs e = grind (arith, ap ok_items e)
read_on-length {A} {X} {E} f before (a ∷ items) xs e = one (f before a) e (λ x rest. read_on-length f (before ++ x ∷ []) items xs rest)
  where
    one : (r : Result X E) → (r >>= λ x. read_on f (before ++ x ∷ []) items) ≡ Ok xs → ((x : X) → read_on f (before ++ x ∷ []) items ≡ Ok xs → length xs ≡ length (before ++ x ∷ []) + length items)
        → length xs ≡ length before + length (a ∷ items)
    one (Ok x) e later = omega (arith, later x e, length-append before (x ∷ []))
    one (Err fault) e later = absurd (cc)
