-- Keys in rising order: how they are put, and that keys in rising order are told by which they are.
use Rattle.std.proofs.Common.{◌≡◌, ◌||◌, Bool, List, [], ◌∷◌, refl, sym, ap, ◌∙◌}
use Rattle.std.proofs.Math.Bool.{or-false, or_assoc, or_comm, or_self}
use Rattle.std.proofs.lemmas.Cmp.{alike_right}
use Rattle.std.proofs.lemmas.Map.Lookups.{CmpEqualImpliesEq, btree_set_from_contains}
use Rattle.std.specs.BTreeSet.{insert_key}
use Rattle.std.specs.Cmp.{IsTotalOrder}
use Rattle.std.specs.List.{AllByRecursion, fold, list_any}
use Rattle.std.specs.List.Sorted.{IsStrictlySortedBy}
use Rattle.std.specs.Ordering.{is_eq, match_ordering, ordering_reverse}
use Rattle.std.specs.declared.cmp.Ordering.{Ordering}
use Rattle.std.specs.declared.cmp.Ordering.TheVariants.{Less, Equal, Greater}

pub or_turned : (b c d : Bool) → (b || (c || d)) ≡ (c || (b || d))
or_turned b c d = sym (or_assoc b c d) ∙ ap (λ (e : Bool). e || d) (or_comm b c) ∙ or_assoc c b d

pub or_twice : (b c d : Bool) → b ≡ c → (c || d) ≡ (b || (c || d))
or_twice b c d same = ap (λ (e : Bool). e || d) (sym (or_self c)) ∙ or_assoc c c d ∙ ap (λ (e : Bool). e || (c || d)) (sym same)

module _ {K : Type 0} {cmp : K → K → Ordering} (total : IsTotalOrder cmp) where
  -- a key is below all of these
  abbrev pub IsBelow : K → List K → Type 0
  IsBelow k ks = AllByRecursion (λ c. cmp k c ≡ Less) ks

  -- whether a key is among these
  abbrev pub has : List K → K → Bool
  has ks k = list_any (λ other. is_eq (cmp k other)) ks

  pub below_all : (a b : K) (ks : List K) → cmp a b ≡ Less → IsBelow b ks → IsBelow a ks
  below_all a b [] less all = tt
  below_all a b (c ∷ ks) less all = (total.trans a b c less all.0, below_all a b ks less all.1)

  -- ---- keys that are put

  below-inserted : (a k : K) (ks : List K) → cmp a k ≡ Less → IsBelow a ks → IsBelow a (insert_key cmp ks k)
  below-inserted a k [] less all = (less, tt)
  below-inserted a k (x ∷ ks) less all = by (cmp k x) (below-inserted a k ks less all.1)
    where
      by : (r : Ordering) → IsBelow a (insert_key cmp ks k) → IsBelow a (match_ordering r (k ∷ x ∷ ks) (x ∷ ks) (x ∷ insert_key cmp ks k))
      by Less behind = (less, all)
      by Equal behind = all
      by Greater behind = (all.0, behind)

  sorted-inserted : (ks : List K) (k : K) → IsStrictlySortedBy cmp ks → IsStrictlySortedBy cmp (insert_key cmp ks k)
  unfolding IsStrictlySortedBy
  sorted-inserted [] k sorted = (tt, tt)
  sorted-inserted (x ∷ ks) k sorted = by (cmp k x) refl (sorted-inserted ks k sorted.1)
    where
      by : (r : Ordering) → cmp k x ≡ r → IsStrictlySortedBy cmp (insert_key cmp ks k)
          → IsStrictlySortedBy cmp (match_ordering r (k ∷ x ∷ ks) (x ∷ ks) (x ∷ insert_key cmp ks k))
      by Less e behind = ((e, below_all k x ks e sorted.0), sorted)
      by Equal e behind = sorted
      by Greater e behind = (below-inserted x k ks (total.antisymm x k ∙ ap ordering_reverse e) sorted.0, behind)

  sorted-folded : (ks more : List K) → IsStrictlySortedBy cmp ks → IsStrictlySortedBy cmp (fold (insert_key cmp) ks more)
  sorted-folded ks [] sorted = sorted
  sorted-folded ks (k ∷ more) sorted = sorted-folded (insert_key cmp ks k) more (sorted-inserted ks k sorted)

  nothing_sorted : IsStrictlySortedBy cmp []
  unfolding IsStrictlySortedBy
  nothing_sorted = tt

  -- each once, they rise
  pub sorted-put : (ks : List K) → IsStrictlySortedBy cmp (fold (insert_key cmp) [] ks)
  sorted-put ks = sorted-folded [] ks nothing_sorted

  same_key : (k a b : K) → cmp a b ≡ Equal → is_eq (cmp k a) ≡ is_eq (cmp k b)
  same_key k a b same = ap is_eq (alike_right total a b k same)

  has-inserted : (ks : List K) (k q : K) → has (insert_key cmp ks k) q ≡ (is_eq (cmp q k) || has ks q)
  has-inserted [] k q = refl
  has-inserted (x ∷ ks) k q = by (cmp k x) refl (has-inserted ks k q)
    where
      by : (r : Ordering) → cmp k x ≡ r → has (insert_key cmp ks k) q ≡ (is_eq (cmp q k) || has ks q)
          → has (match_ordering r (k ∷ x ∷ ks) (x ∷ ks) (x ∷ insert_key cmp ks k)) q ≡ (is_eq (cmp q k) || (is_eq (cmp q x) || has ks q))
      by Less e behind = refl
      by Equal e behind = or_twice (is_eq (cmp q k)) (is_eq (cmp q x)) (has ks q) (same_key q k x e)
      by Greater e behind = ap (λ (b : Bool). is_eq (cmp q x) || b) behind ∙ or_turned (is_eq (cmp q x)) (is_eq (cmp q k)) (has ks q)

  has-folded : (ks more : List K) (q : K) → has (fold (insert_key cmp) ks more) q ≡ (has more q || has ks q)
  has-folded ks [] q = refl
  has-folded ks (k ∷ more) q =
      has-folded (insert_key cmp ks k) more q ∙ ap (λ (b : Bool). has more q || b) (has-inserted ks k q)
      ∙ or_turned (has more q) (is_eq (cmp q k)) (has ks q) ∙ sym (or_assoc (is_eq (cmp q k)) (has more q) (has ks q))

  pub has-put : (ks : List K) (q : K) → has (fold (insert_key cmp) [] ks) q ≡ has ks q
  has-put ks q = has-folded [] ks q ∙ or-false (has ks q)

  -- keys in rising order are those that they have, each put once
  pub put_is : CmpEqualImpliesEq cmp → (xs more : List K) → IsStrictlySortedBy cmp xs → ((q : K) → has xs q ≡ has more q) → xs ≡ fold (insert_key cmp) [] more
  put_is exact xs more sorted same =
      btree_set_from_contains total (record { keys = xs }) (record { keys = fold (insert_key cmp) [] more }) sorted (sorted-put more) (λ q. same q ∙ sym (has-put more q)) exact
