-- How the ids of pairs are put into a set.
use Rattle.std.proofs.Common.{◌≡◌, ℕ, ◌+◌, ◌<◌, ◌==◌, ◌||◌, length, drop, get_or, Bool, true, false, cond, List, [], ◌∷◌, refl, sym, ap, ◌∙◌}
use Rattle.std.proofs.Math.Bool.{or-false}
use Rattle.std.proofs.lemmas.List.{drop_more}
use Rattle.std.specs.BTreeSet.{BTreeSet, contains, Updates}
use Rattle.std.specs.Cmp.{unsigned_tied}
use Rattle.std.specs.List.{list_any}
use Rattle.std.specs.Ordering.{nat_cmp}
use Rattle.command_base.specs.overlay_map.IdMap.{MapOf, IdPair, pairs_of}
use Rattle.command_base.specs.PairSeen.{pair_seen}

-- the set has the ids that pass with some pair, but for pairs that are left
pub record HasAllBut (test : ℕ → (ℕ × ℕ) → Bool) (ids : BTreeSet ℕ) (all left : MapOf) : Type 0 where
  pub others : (id : ℕ) → (contains nat_cmp ids id || list_any (test id) left) ≡ list_any (test id) all

pub HasAllBut-none : (test : ℕ → (ℕ × ℕ) → Bool) (ids : BTreeSet ℕ) (all : MapOf) → ids.keys ≡ [] → HasAllBut test ids all all
HasAllBut-none test ids all empty = rw empty record { others = λ id. refl }

put_before : (has put others : Bool) → (cond put true has || others) ≡ (has || (put || others))
put_before true true others = refl
put_before true false others = refl
put_before false true others = refl
put_before false false others = refl

pub HasAllBut-put : (test : ℕ → (ℕ × ℕ) → Bool) (old new : BTreeSet ℕ) (all left others : MapOf) (pair : ℕ × ℕ) (own : ℕ) → HasAllBut test old all left → left ≡ pair ∷ others
    → Updates nat_cmp old new own true → ((id : ℕ) → test id pair ≡ (own == id)) → HasAllBut test new all others
HasAllBut-put test old new all left others pair own before split put passes = record {
  others = λ id.
      ap (λ (b : Bool). b || list_any (test id) others) (put.0 id ∙ ap (λ (b : Bool). cond b true (contains nat_cmp old id)) (unsigned_tied own id ∙ sym (passes id)))
      ∙ put_before (contains nat_cmp old id) (test id pair) (list_any (test id) others)
      ∙ ap (λ (t : MapOf). contains nat_cmp old id || list_any (test id) t) (sym split)
      ∙ before.others id;
}

-- the same over a slice
pub HasAllBut-put_at : (test : ℕ → (ℕ × ℕ) → Bool) (old new : BTreeSet ℕ) (pairs : List IdPair) (i : ℕ) (d : IdPair) → HasAllBut test old (pairs_of pairs) (pairs_of (drop i pairs))
    → i < length pairs → Updates nat_cmp old new (get_or pairs i d).1.0 true → ((id : ℕ) → test id (pair_seen (get_or pairs i d)) ≡ ((get_or pairs i d).1.0 == id))
    → HasAllBut test new (pairs_of pairs) (pairs_of (drop (i + 1) pairs))
HasAllBut-put_at test old new pairs i d before on put passes =
    HasAllBut-put test old new (pairs_of pairs) (pairs_of (drop i pairs)) (pairs_of (drop (i + 1) pairs)) (pair_seen (get_or pairs i d)) (get_or pairs i d).1.0 before
    (ap (λ (t : List IdPair). pairs_of t) (drop_more pairs i d on)) put passes

pub HasAllBut-skip : (test : ℕ → (ℕ × ℕ) → Bool) (ids : BTreeSet ℕ) (all left others : MapOf) (pair : ℕ × ℕ) → HasAllBut test ids all left → left ≡ pair ∷ others
    → ((id : ℕ) → test id pair ≡ false) → HasAllBut test ids all others
HasAllBut-skip test ids all left others pair before split fails = record {
  others = λ id.
      ap (λ (b : Bool). contains nat_cmp ids id || (b || list_any (test id) others)) (sym (fails id))
      ∙ ap (λ (t : MapOf). contains nat_cmp ids id || list_any (test id) t) (sym split)
      ∙ before.others id;
}

pub HasAllBut-end : (test : ℕ → (ℕ × ℕ) → Bool) (ids : BTreeSet ℕ) (all left : MapOf) → HasAllBut test ids all left → left ≡ []
    → (id : ℕ) → contains nat_cmp ids id ≡ list_any (test id) all
HasAllBut-end test ids all left before nothing id =
    sym (or-false (contains nat_cmp ids id)) ∙ ap (λ (t : MapOf). contains nat_cmp ids id || list_any (test id) t) (sym nothing) ∙ before.others id
