-- Differences after differences, in their order.
use Rattle.std.proofs.Common.{◌≡◌, ℕ, ◌+◌, ◌-◌, inl, inr, arith, Bool, true, false, List, [], ◌∷◌, ◌++◌, length, get_or, take, map, reverse, refl, sym, ap, subst, ◌∙◌}
use Rattle.std.specs.List.{All, AllPairs}
use Rattle.std.specs.List.Sorted.{IsSortedBy}
use Rattle.std.specs.Cmp.{IsStrictWeakOrder}
use Rattle.std.specs.Ordering.{ordering_reverse, is_lt, is_eq}
use Rattle.std.specs.declared.cmp.Ordering.{Ordering}
use Rattle.std.specs.declared.cmp.Ordering.TheVariants.{Less, Equal, Greater}
use Rattle.std.proofs.lemmas.Bool.{cases_eq}
use Rattle.std.proofs.lemmas.List.{take_more, take_all, get_or-map, length-map, length_push}
use Rattle.std.proofs.lemmas.List.Elements.{All-nil, All-push, All-map}
use Rattle.std.proofs.lemmas.List.Kept.{AllPairs-cons}
use Rattle.std.proofs.lemmas.List.Quantifiers.{all_pairs_push}
use Rattle.std.proofs.lemmas.List.Sorted.{ranks_by, sorted_far, IsStrictWeakOrder-flip}
use Rattle.cert_maker.proofs.cert_checker.BoxSteps.{reverse-push}
use Rattle.config_box.proofs.PairSteps.{pairs-head, pairs-tail}
use Rattle.config_box.proofs.RangeSteps.{All-front, All-last, pairs-front, pairs-last}
use Rattle.stack_diff.specs.declared.difference.Difference.{Difference}
use Rattle.stack_diff.specs.contracts.difference.DifferencePartialEq.TheImpl.{eq-value}
use Rattle.stack_diff.specs.contracts.difference.DifferenceOrd.TheImpl.{cmp-value}
use Rattle.stack_diff.specs.contracts.difference.DifferenceOrd.TheImpl.Laws.{total-law, matches_eq-law}
use Rattle.stack_diff.proofs.DifferenceEquality.{told_differences}
use Rattle.stack_diff.specs.declared.change.Change.{Change}
use Rattle.stack_diff.specs.declared.tree.Leaf.{Leaf}
use Rattle.stack_diff.specs.Changes.{change_of}
use Rattle.stack_diff.specs.Fewest.{TellOther}
use Rattle.stack_diff.specs.Grouped.{differences_in, differences_told, AreOne, AddsDifference}

-- ---- the order

abbrev pub order : Difference → Difference → Ordering
order = cmp-value.it

ties : (a b : Difference) → eq-value.it a b ≡ is_eq (order a b)
ties = matches_eq-law

tied : (o : Ordering) → is_eq o ≡ true → o ≡ Equal
tied Less e = absurd cc
tied Equal e = refl
tied Greater e = absurd cc

-- differences that are one are equal
one-equal : (a b : Difference) → AreOne a b → order a b ≡ Equal
one-equal a b same = is-equal (eq-value.it a b) refl
  where
    is-equal : (r : Bool) → r ≡ eq-value.it a b → order a b ≡ Equal
    is-equal true e = tied (order a b) (sym (ties a b) ∙ sym e)
    is-equal false e = absurd (told_differences a b false e same)

equal-one : (a b : Difference) → order a b ≡ Equal → AreOne a b
equal-one a b same = told_differences a b true (sym (ties a b ∙ ap is_eq same))

-- one that does not stand behind the other, and is another, stands before it
before-other : (p q : Difference) → is_lt (order q p) ≡ false → (AreOne p q → ⊥) → order p q ≡ Less
before-other p q not_less other = by-order (order p q) refl
  where
    by-order : (o : Ordering) → order p q ≡ o → o ≡ Less
    by-order Less e = refl
    by-order Equal e = absurd (other (equal-one p q e))
    by-order Greater e =
        let turned : order q p ≡ Less = total-law.antisymm q p ∙ ap ordering_reverse e in
        let less : is_lt (order q p) ≡ true = ap is_lt turned in
        absurd cc

-- ---- sorted leaves

pub leaves_ranked : IsStrictWeakOrder (λ (a b : Leaf). is_lt (order b.difference.value a.difference.value))
leaves_ranked = IsStrictWeakOrder-flip (λ a b. is_lt (order a.difference.value b.difference.value)) (ranks_by total-law (λ (leaf : Leaf). leaf.difference.value))

-- no pair stands before one that is taken after it
abbrev NotBefore : Difference → Difference → Type 0
NotBefore p q = is_lt (order p q) ≡ false

abbrev IsBefore : Difference → Difference → Type 0
IsBefore p q = order p q ≡ Less

pairs-map : {X Y : Type 0} (R : Y → Y → Type 0) (f : X → Y) (xs : List X) → AllPairs (λ a b. R (f a) (f b)) xs → AllPairs R (map f xs)
pairs-map R f [] h = λ i j d lt q. absurd (omega arith)
pairs-map R f (x ∷ xs) h =
    AllPairs-cons R (f x) (map f xs) (All-map (R (f x)) f xs (pairs-head (λ a b. R (f a) (f b)) x xs h)) (pairs-map R f xs (pairs-tail (λ a b. R (f a) (f b)) x xs h))

pairs-mapped : {X Y : Type 0} (R : Y → Y → Type 0) (f : X → Y) (xs : List X) → AllPairs R (map f xs) → AllPairs (λ a b. R (f a) (f b)) xs
pairs-mapped R f xs h i j d lt q =
    let long = length-map xs f in
    subst (λ a. R a (f (get_or xs j d))) (get_or-map f xs i d (f d) (omega arith))
    (subst (λ b. R (get_or (map f xs) i (f d)) b) (get_or-map f xs j d (f d) q) (h i j (f d) lt (omega arith)))

-- what is known while leaves are taken from the end: the contents of the changes rise, and no leaf that is left stands before
-- one of them
pub record AreRising (left told : List Difference) : Type 0 where
  pub falling : AllPairs NotBefore left
  pub rising : AllPairs IsBefore told
  pub ahead : All (λ pair. All (λ other. NotBefore other pair) left) told

pub sorted-leaves : (leaves : List Leaf) → IsSortedBy (λ (a b : Leaf). is_lt (order b.difference.value a.difference.value)) leaves → AreRising (differences_told leaves) []
sorted-leaves leaves sorted = record {
  falling = pairs-map NotBefore (λ (leaf : Leaf). leaf.difference.value) leaves
      (λ i j d lt q. sorted_far (λ a b. is_lt (order b.difference.value a.difference.value)) leaves_ranked leaves sorted i j d (omega arith) q);
  rising = λ i j d lt q. absurd (omega arith);
  ahead = All-nil (λ pair. All (λ other. NotBefore other pair) (differences_told leaves));
}

-- all of the contents so far stand before other ones, where the last do and none is ahead
all-before : (left told : List Difference) (pair : Difference) → AllPairs IsBefore told → All (λ p. NotBefore pair p) told
    → ((front : List Difference) (last : Difference) → told ≡ front ++ last ∷ [] → AreOne last pair → ⊥) → All (λ p. IsBefore p pair) told
all-before left told pair rising ahead other k d q =
    let n : ℕ = length told - 1 in
    let last : Difference = get_or told n d in
    let whole : told ≡ take n told ++ last ∷ [] = sym (take_all (n + 1) told (omega arith)) ∙ take_more told n d (omega arith) in
    let least : IsBefore last pair = before-other last pair (ahead n d (omega arith)) (other (take n told) last whole) in
    elim (cases_eq k n) [
      | inl e ↦ subst (λ (i : ℕ). IsBefore (get_or told i d) pair) (sym e) least
      | inr ne ↦ total-law.trans (get_or told k d) last pair (rising k n d (omega arith) (omega arith)) least
    ]

pub rising-next : (left rest : List Difference) (pair : Difference) (old new : List Difference) → left ≡ rest ++ pair ∷ [] → AddsDifference pair old new → AreRising left old → AreRising rest new
rising-next left rest pair old new e adds so_far =
    let falling : AllPairs NotBefore (rest ++ pair ∷ []) = subst (AllPairs NotBefore) e so_far.falling in
    let ahead : All (λ p. All (λ other. NotBefore other p) (rest ++ pair ∷ [])) old = subst (λ (l : List Difference). All (λ p. All (λ other. NotBefore other p) l) old) e so_far.ahead in
    let front : All (λ p. All (λ other. NotBefore other p) rest) old = λ k d q. All-front (λ other. NotBefore other (get_or old k d)) rest pair (ahead k d q) in
    let last : All (λ p. NotBefore pair p) old = λ k d q. All-last (λ other. NotBefore other (get_or old k d)) rest pair (ahead k d q) in
    elim adds [
      | inl same ↦ subst (AreRising rest) (sym same.0) (record { falling = pairs-front NotBefore rest pair falling; rising = so_far.rising; ahead = front })
      | inr more ↦ subst (AreRising rest) (sym more.0) (record {
        falling = pairs-front NotBefore rest pair falling;
        rising = all_pairs_push IsBefore old pair so_far.rising (all-before left old pair so_far.rising last more.1);
        ahead = All-push (λ p. All (λ other. NotBefore other p) rest) old pair front (pairs-last NotBefore rest pair falling);
      })
    ]

-- so no two changes tell the same
pub told-apart : (changes : List Change) → AllPairs IsBefore (differences_in changes) → AllPairs TellOther (map change_of changes)
told-apart changes rising =
    pairs-map TellOther change_of changes
    (λ i j d lt q e.
    let less : order (get_or changes i d).difference.value (get_or changes j d).difference.value ≡ Less = pairs-mapped IsBefore (λ (change : Change). change.difference.value) changes rising i j d lt q in
    let tied = one-equal (get_or changes i d).difference.value (get_or changes j d).difference.value e in
    absurd cc)

-- ---- one leaf more

pub adds-first : (pair : Difference) (old new : List Difference) → old ≡ [] → new ≡ pair ∷ [] → AddsDifference pair old new
adds-first pair old new none e =
    inr (e ∙ ap (λ (ps : List Difference). ps ++ pair ∷ []) (sym none), λ front last is one. let long = length_push front last in let short = ap length (sym none ∙ is) in absurd (omega arith))

pub adds-same : (pair last changed : Difference) (rest old new : List Difference) → old ≡ rest ++ last ∷ [] → new ≡ rest ++ changed ∷ [] → changed ≡ last → AreOne last pair → AddsDifference pair old new
adds-same pair last changed rest old new e f same one =
    inl (f ∙ ap (λ (p : Difference). rest ++ p ∷ []) same ∙ sym e, (rest, last, e, one))

pub adds-other : (pair last : Difference) (rest old new : List Difference) → old ≡ rest ++ last ∷ [] → new ≡ old ++ pair ∷ [] → (AreOne last pair → ⊥) → AddsDifference pair old new
adds-other pair last rest old new e f other =
    inr (
      f,
      λ front found is one.
          let turned : last ∷ reverse rest ≡ found ∷ reverse front = sym (reverse-push rest last) ∙ ap reverse (sym e ∙ is) ∙ reverse-push front found in
          let same : last ≡ found = cc in
          other (subst (λ (p : Difference). AreOne p pair) (sym same) one),
    )
