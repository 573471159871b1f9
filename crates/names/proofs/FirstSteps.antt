-- The first goals of words.
use Rattle.std.proofs.Common.{◌≡◌, ℕ, zero, suc, ◌<◌, ◌≤◌, ◌+◌, List, [], ◌∷◌, ◌++◌, length, map, take, drop, get_or, take-append-drop, append_assoc, Result, Ok, Err, refl, sym, ap, ◌∙◌, arith}
use Rattle.std.proofs.lemmas.List.{map-append, map_more}
use Rattle.contract_words.specs.Faults.{◌>>=◌}
use Rattle.contract_words.specs.Sequences.{with_front}
use Rattle.contract_words.proofs.SequenceSteps.{ReadsAllBut, ReadsAllBut-next, ReadsAllBut-stops, ReadsAllBut-end}
use Rattle.res_value.specs.Goal.{GoalSeen}
use Rattle.overlay_map.specs.Layer.{LayerOf}
use Rattle.names.specs.NameFault.{NameFaultOf}
use Rattle.names.specs.NamedGoal.{NamedGoalOf}
use Rattle.names.specs.NamedGoals.{first_goals, goals_named}

-- ---- the first of a list

pub take-none : {X : Type 0} (n : ℕ) → take {A = X} n [] ≡ []
take-none zero = refl
take-none (suc n) = refl

pub take-short : {X : Type 0} (n : ℕ) (xs : List X) → length (take n xs) ≤ n
take-short zero xs = omega arith
take-short (suc n) [] = omega arith
take-short (suc n) (x ∷ xs) = let short = take-short n xs in omega (arith, short)

-- the first of the first and others
pub take-twice : {X : Type 0} (n : ℕ) (xs ys : List X) → take n (take n xs ++ ys) ≡ take n (xs ++ ys)
take-twice zero xs ys = refl
take-twice (suc n) [] ys = refl
take-twice {X} (suc n) (x ∷ xs) ys = ap (λ (others : List X). x ∷ others) (take-twice n xs ys)

-- there is no room for others
pub take-full : {X : Type 0} (n : ℕ) (xs ys : List X) → n ≤ length (take n xs) → take n (xs ++ ys) ≡ take n xs
take-full zero xs ys full = refl
take-full (suc n) [] ys full = absurd (omega (arith, full))
take-full {X} (suc n) (x ∷ xs) ys full = ap (λ (others : List X). x ∷ others) (take-full n xs ys (omega (arith, full)))

-- there is room for one more
pub take-room : {X : Type 0} (n : ℕ) (xs : List X) (y : X) → length (take n xs) < n → take n (xs ++ y ∷ []) ≡ take n xs ++ y ∷ []
take-room zero xs y room = absurd (omega (arith, room))
take-room {X} (suc n) [] y room = ap (λ (others : List X). y ∷ others) (take-none n)
take-room {X} (suc n) (x ∷ xs) y room = ap (λ (others : List X). x ∷ others) (take-room n xs y (omega (arith, room)))

-- fewer than may be taken are all
pub take-fewer : {X : Type 0} (n : ℕ) (xs : List X) → length (take n xs) < n → take n xs ≡ xs
take-fewer zero xs few = absurd (omega (arith, few))
take-fewer (suc n) [] few = refl
take-fewer {X} (suc n) (x ∷ xs) few = ap (λ (others : List X). x ∷ others) (take-fewer n xs (omega (arith, few)))

-- what was taken with some others is all that may be taken with all of them
pub take-full_of : {X Y : Type 0} (f : X → Y) (n : ℕ) (before now : List Y) (items : List X) (place : ℕ) → n ≤ length now → (length before ≤ n → now ≡ take n (before ++ map f (take place items)))
    → length before ≤ n → now ≡ take n (before ++ map f items)
take-full_of {X} {Y} f n before now items place full are few =
    let so_far = before ++ map f (take place items) in
    let count = ap length (are few) in
    are few
    ∙ sym (take-full n so_far (map f (drop place items)) (omega (arith, full, count)))
    ∙ ap (take n) (append_assoc before (map f (take place items)) (map f (drop place items))
    ∙ ap (λ (others : List Y). before ++ others) (sym (map-append f (take place items) (drop place items)) ∙ ap (map f) (take-append-drop place items)))

-- one more was taken, for which there was room
pub take-more_of : {X Y : Type 0} (f : X → Y) (n : ℕ) (before now more : List Y) (items : List X) (place : ℕ) (d : X) → length now < n → place < length items
    → (length before ≤ n → now ≡ take n (before ++ map f (take place items))) → more ≡ now ++ f (get_or items place d) ∷ []
    → length before ≤ n → more ≡ take n (before ++ map f (take (place + 1) items))
take-more_of {X} {Y} f n before now more items place d room on are put few =
    let so_far = before ++ map f (take place items) in
    let count = ap length (are few) in
    put
    ∙ ap (λ (ys : List Y). ys ++ f (get_or items place d) ∷ []) (are few)
    ∙ sym (take-room n so_far (f (get_or items place d)) (omega (arith, room, count)))
    ∙ ap (take n) (append_assoc before (map f (take place items)) (f (get_or items place d) ∷ []) ∙ ap (λ (others : List Y). before ++ others) (sym (map_more f items place d on)))

-- ---- a loop

-- what f reads of all items begins with these, at most so many; that of the items that are left is still to come
pub record FirstBut {A X E : Type 0} (f : A → Result (List X) E) (most : ℕ) (first : List X) (left : List A) (total : Result (List X) E) : Type 0 where
  pub so_far : List X
  pub are : first ≡ take most so_far
  pub read : ReadsAllBut f so_far left total

pub FirstBut-next : {A X E : Type 0} (f : A → Result (List X) E) (most : ℕ) (old new xs : List X) (left others : List A) (a : A) (total : Result (List X) E)
    → FirstBut f most old left total → left ≡ a ∷ others → f a ≡ Ok xs → (length old ≤ most → new ≡ take most (old ++ xs)) → FirstBut f most new others total
FirstBut-next {A} {X} f most old new xs left others a total before split is put =
    let few = take-short most before.so_far in
    let count = ap length before.are in
    record {
      so_far = before.so_far ++ xs;
      are = put (omega (arith, few, count)) ∙ ap (λ (first : List X). take most (first ++ xs)) before.are ∙ take-twice most before.so_far xs;
      read = ReadsAllBut-next f before.so_far (before.so_far ++ xs) left others a total before.read split (ap (with_front before.so_far) is);
    }

pub FirstBut-stops : {A X E : Type 0} (f : A → Result (List X) E) (most : ℕ) (old : List X) (left others : List A) (a : A) (fault : E) (total : Result (List X) E)
    → FirstBut f most old left total → left ≡ a ∷ others → f a ≡ Err fault → total ≡ Err fault
FirstBut-stops f most old left others a fault total before split is =
    ReadsAllBut-stops f before.so_far left others a fault total before.read split (ap (with_front before.so_far) is)

-- ---- the first goals

pub first-found : (layers : List LayerOf) (goals : List NamedGoalOf) (most : ℕ) (all first : List GoalSeen) → goals_named layers goals ≡ Ok all → first ≡ take most all
    → first_goals layers goals most ≡ Ok first
unfolding first_goals
first-found layers goals most all first is are =
    let wrapped : List GoalSeen → Result (List GoalSeen) NameFaultOf = λ goals. Ok goals in
    ap (λ (r : Result (List GoalSeen) NameFaultOf). r >>= λ all. Ok (take most all)) is ∙ ap wrapped (sym are)

pub first-missing : (layers : List LayerOf) (goals : List NamedGoalOf) (most : ℕ) (fault : NameFaultOf) → goals_named layers goals ≡ Err fault → first_goals layers goals most ≡ Err fault
unfolding first_goals
first-missing layers goals most fault is = ap (λ (r : Result (List GoalSeen) NameFaultOf). r >>= λ all. Ok (take most all)) is

pub FirstBut-end : (f : NamedGoalOf → Result (List GoalSeen) NameFaultOf) (layers : List LayerOf) (goals : List NamedGoalOf) (most : ℕ) (first : List GoalSeen) (left : List NamedGoalOf)
    → FirstBut f most first left (goals_named layers goals) → left ≡ [] → first_goals layers goals most ≡ Ok first
FirstBut-end f layers goals most first left before nothing =
    first-found layers goals most before.so_far first (ReadsAllBut-end f before.so_far left (goals_named layers goals) before.read nothing) before.are
