-- How a loop goes through a list that is read piece by piece.
use Rattle.std.proofs.Common.{◌≡◌, ℕ, suc, ◌+◌, ◌-◌, ◌<◌, ◌≤◌, List, [], ◌∷◌, ◌++◌, map, reverse, Result, Ok, Err, refl, sym, ap, subst, ◌∙◌, append_assoc, arith}
use Rattle.std.proofs.lemmas.List.{append-nil, reverse-append, reverse-reverse}
use Rattle.std.specs.List.{range_with_len}
use Rattle.contract_words.specs.Sequences.{with_front, joined, joined_each, joined_from, with_before}

pub with_front-twice : {X E : Type 0} (a b : List X) (r : Result (List X) E) → with_front a (with_front b r) ≡ with_front (a ++ b) r
with_front-twice {X} {E} a b (Ok xs) = let wrapped : List X → Result (List X) E = λ t. Ok t in ap wrapped (sym (append_assoc a b xs))
with_front-twice a b (Err e) = refl

pub with_front_nil : {X E : Type 0} (r : Result (List X) E) → with_front [] r ≡ r
with_front_nil (Ok xs) = refl
with_front_nil (Err e) = refl

-- what was read stands in front of what is read next
joined-next : {X E : Type 0} (a b : List X) (r : Result (List X) E) (others : List (Result (List X) E)) → with_front a r ≡ Ok b
    → with_front a (joined (r ∷ others)) ≡ with_front b (joined others)
unfolding joined
joined-next {X} {E} a b (Ok xs) others e =
    let same : a ++ xs ≡ b = cc in
    with_front-twice a xs (joined others) ∙ ap (λ (t : List X). with_front t (joined others)) same
joined-next a b (Err d) others e = absurd cc

joined-stops : {X E : Type 0} (a : List X) (d : E) (r : Result (List X) E) (others : List (Result (List X) E)) → with_front a r ≡ Err d
    → with_front a (joined (r ∷ others)) ≡ Err d
unfolding joined
joined-stops a d (Ok xs) others e = absurd cc
joined-stops a d (Err f) others e = e

joined-end : {X E : Type 0} (a : List X) → with_front {E = E} a (joined []) ≡ Ok a
unfolding joined
joined-end {X} {E} a = let wrapped : List X → Result (List X) E = λ t. Ok t in ap wrapped (append-nil a)

-- ---- a loop over items

-- what f reads of all items is a and what it reads of those that are left
pub record ReadsAllBut {A X E : Type 0} (f : A → Result (List X) E) (a : List X) (left : List A) (total : Result (List X) E) : Type 0 where
  pub others : with_front a (joined_each f left) ≡ total

pub ReadsAllBut-none : {A X E : Type 0} (f : A → Result (List X) E) (a : List X) (all : List A) → ReadsAllBut f a all (with_front a (joined_each f all))
ReadsAllBut-none f a all = record { others = refl }

pub ReadsAllBut-next : {A X E : Type 0} (f : A → Result (List X) E) (a b : List X) (left others : List A) (x : A) (total : Result (List X) E)
    → ReadsAllBut f a left total → left ≡ x ∷ others → with_front a (f x) ≡ Ok b → ReadsAllBut f b others total
unfolding joined_each
ReadsAllBut-next {A} {X} {E} f a b left others x total before split read =
    let here : with_front a (joined (map f left)) ≡ with_front b (joined (map f others)) =
    ap (λ (t : List A). with_front a (joined (map f t))) split ∙ joined-next a b (f x) (map f others) read in
    record { others = sym here ∙ before.others }

pub ReadsAllBut-stops : {A X E : Type 0} (f : A → Result (List X) E) (a : List X) (left others : List A) (x : A) (d : E) (total : Result (List X) E)
    → ReadsAllBut f a left total → left ≡ x ∷ others → with_front a (f x) ≡ Err d → total ≡ Err d
unfolding joined_each
ReadsAllBut-stops {A} f a left others x d total before split read =
    sym before.others ∙ ap (λ (t : List A). with_front a (joined (map f t))) split ∙ joined-stops a d (f x) (map f others) read

pub ReadsAllBut-end : {A X E : Type 0} (f : A → Result (List X) E) (a : List X) (left : List A) (total : Result (List X) E)
    → ReadsAllBut f a left total → left ≡ [] → total ≡ Ok a
unfolding joined_each
ReadsAllBut-end {A} f a left total before nothing =
    sym before.others ∙ ap (λ (t : List A). with_front a (joined (map f t))) nothing ∙ joined-end a

pub ruleset each_steps = (ReadsAllBut-none, ReadsAllBut-next, ReadsAllBut-stops, ReadsAllBut-end)

-- ---- a loop over the numbers from i on and below n

pub joined_from-next : {X E : Type 0} (f : ℕ → Result (List X) E) (a b : List X) (i n : ℕ) → i < n → with_front a (f i) ≡ Ok b
    → with_front a (joined_from f i n) ≡ with_front b (joined_from f (i + 1) n)
unfolding joined_from joined_each
joined_from-next f a b i n lt e =
    let k : n - i ≡ suc (n - (i + 1)) = omega arith in
    rw k (joined-next a b (f i) (map f (range_with_len (i + 1) (n - (i + 1)))) e)

pub joined_from-stops : {X E : Type 0} (f : ℕ → Result (List X) E) (a : List X) (d : E) (i n : ℕ) → i < n → with_front a (f i) ≡ Err d
    → with_front a (joined_from f i n) ≡ Err d
unfolding joined_from joined_each
joined_from-stops f a d i n lt e =
    let k : n - i ≡ suc (n - (i + 1)) = omega arith in
    rw k (joined-stops a d (f i) (map f (range_with_len (i + 1) (n - (i + 1)))) e)

pub joined_from-end : {X E : Type 0} (f : ℕ → Result (List X) E) (a : List X) (i n : ℕ) → n ≤ i → with_front a (joined_from f i n) ≡ Ok a
unfolding joined_from joined_each
joined_from-end f a i n le = let k : n - i ≡ 0 = omega arith in rw k (joined-end a)

pub ruleset from_steps = (joined_from-next, joined_from-stops, joined_from-end)

-- ---- a loop over items that knows something of those before

-- Of `all` items `left` are left; `before` are those that were read, the nearest first, of which `Known`
-- holds; what f read of them is a, and what it reads of those that are left is still to come.
pub record ReadsKnowing {A S X E : Type 0} (Known : S → List A → Type 0) (f : (List A × A) → Result (List X) E) (s : S) (a : List X) (all left : List A) (total : Result (List X) E) : Type 0 where
  pub before : List A
  pub known : Known s before
  pub items : reverse before ++ left ≡ all
  pub read : ReadsAllBut f a (with_before before left) total

pub ReadsKnowing-none : {A S X E : Type 0} (Known : S → List A → Type 0) (f : (List A × A) → Result (List X) E) (s : S) (a : List X) (all : List A) → Known s []
    → ReadsKnowing Known f s a all all (with_front a (joined_each f (with_before [] all)))
ReadsKnowing-none Known f s a all known = record { before = []; known = known; items = refl; read = ReadsAllBut-none f a (with_before [] all) }

-- an item goes over from those that are left to those that were read
items-next : {A : Type 0} (before all left others : List A) (x : A) → reverse before ++ left ≡ all → left ≡ x ∷ others → reverse (x ∷ before) ++ others ≡ all
items-next {A} before all left others x items split =
    ap (λ (t : List A). t ++ others) (reverse-append (x ∷ []) before)
    ∙ append_assoc (reverse before) (x ∷ []) others
    ∙ ap (λ (t : List A). reverse before ++ t) (sym split)
    ∙ items

pub ReadsKnowing-next : {A S X E : Type 0} (Known : S → List A → Type 0) (f : (List A × A) → Result (List X) E) (s t : S) (a b : List X) (all left others : List A) (x : A) (total : Result (List X) E)
    → (so_far : ReadsKnowing Known f s a all left total) → left ≡ x ∷ others → Known t (x ∷ so_far.before) → with_front a (f (so_far.before, x)) ≡ Ok b
    → ReadsKnowing Known f t b all others total
unfolding with_before
ReadsKnowing-next {A} Known f s t a b all left others x total so_far split known read = record {
  before = x ∷ so_far.before;
  known = known;
  items = items-next so_far.before all left others x so_far.items split;
  read = ReadsAllBut-next f a b (with_before so_far.before left) (with_before (x ∷ so_far.before) others) (so_far.before, x) total so_far.read (ap (λ (t : List A). with_before so_far.before t) split) read;
}

pub ReadsKnowing-stops : {A S X E : Type 0} (Known : S → List A → Type 0) (f : (List A × A) → Result (List X) E) (s : S) (a : List X) (all left others : List A) (x : A) (d : E) (total : Result (List X) E)
    → (so_far : ReadsKnowing Known f s a all left total) → left ≡ x ∷ others → with_front a (f (so_far.before, x)) ≡ Err d → total ≡ Err d
unfolding with_before
ReadsKnowing-stops {A} Known f s a all left others x d total so_far split read =
    ReadsAllBut-stops f a (with_before so_far.before left) (with_before (x ∷ so_far.before) others) (so_far.before, x) d total so_far.read (ap (λ (t : List A). with_before so_far.before t) split) read

pub ReadsKnowing-end : {A S X E : Type 0} (Known : S → List A → Type 0) (f : (List A × A) → Result (List X) E) (s : S) (a : List X) (all left : List A) (total : Result (List X) E)
    → ReadsKnowing Known f s a all left total → left ≡ [] → total ≡ Ok a
unfolding with_before
ReadsKnowing-end {A} Known f s a all left total so_far nothing =
    ReadsAllBut-end f a (with_before so_far.before left) total so_far.read (ap (λ (t : List A). with_before so_far.before t) nothing)

-- at the end all items are those before, turned round
reversed-back : {A : Type 0} (before all left : List A) → reverse before ++ left ≡ all → left ≡ [] → before ≡ reverse all
reversed-back {A} before all left items nothing =
    sym (reverse-reverse before)
    ∙ ap (λ (t : List A). reverse t) (sym (append-nil (reverse before)) ∙ ap (λ (t : List A). reverse before ++ t) (sym nothing) ∙ items)

pub ReadsKnowing-known : {A S X E : Type 0} (Known : S → List A → Type 0) (f : (List A × A) → Result (List X) E) (s : S) (a : List X) (all left : List A) (total : Result (List X) E)
    → ReadsKnowing Known f s a all left total → left ≡ [] → Known s (reverse all)
ReadsKnowing-known {A} Known f s a all left total so_far nothing =
    subst (λ (t : List A). Known s t) (reversed-back so_far.before all left so_far.items nothing) so_far.known

pub ruleset knowing_steps = (ReadsKnowing-none, ReadsKnowing-next, ReadsKnowing-stops, ReadsKnowing-end, ReadsKnowing-known)
