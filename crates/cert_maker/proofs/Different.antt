-- The different traces that the numbers of a list have, and how many there are on the two sides of a test.
use Rattle.std.proofs.Common.{◌≡◌, ◌≢◌, ℕ, ◌+◌, ◌≤◌, ◌⊎◌, inl, inr, arith, List, [], ◌∷◌, map, Bool, true, false, not, cond, filter, sym, ◌∙◌, ap, refl, subst}
use Rattle.std.proofs.lemmas.Bool.{cases_Bool}
use Rattle.std.specs.List.{list_any}
use Rattle.cert_checker.specs.reference_resolver.Trace.{Trace}
use Rattle.cert_checker.specs.reference_resolver.SameTrace.{same_trace}
use Rattle.cert_maker.specs.Runs.{different}
use Rattle.cert_checker.proofs.reference_resolver.SameTraces.{trace-cases}
use Rattle.cert_checker.proofs.config_box.Filters.{Among, among-kept, kept-among}

-- ---- the numbers that pass

abbrev pub fails : (ℕ → Bool) → ℕ → Bool
fails q n = not (q n)

-- one passes, or none does
pub find : (q : ℕ → Bool) (ns : List ℕ) → ((m : ℕ) × Among m ns × (q m ≡ true)) ⊎ ((m : ℕ) → Among m ns → q m ≡ false)
find q [] = inr (λ m a. absurd a)
find q (n ∷ ns) =
    elim (cases_Bool (q n)) [
      | inl e ↦ inl (n, inl refl, e)
      | inr f ↦ elim (find q ns) [
        | inl h ↦ inl (h.0, inr h.1, h.2)
        | inr none ↦ inr (λ m a. elim a [ inl e ↦ (ap q (sym e) ∙ f) | inr b ↦ none m b ])
      ]
    ]

-- ---- their traces

among-map : (t : ℕ → Trace) (w : Trace) (ns : List ℕ) → Among w (map t ns) → (m : ℕ) × Among m ns × (t m ≡ w)
among-map t w [] a = absurd a
among-map t w (n ∷ ns) (inl e) = (n, inl refl, e)
among-map t w (n ∷ ns) (inr a) = let h = among-map t w ns a in (h.0, inr h.1, h.2)

pub map-among : (t : ℕ → Trace) (m : ℕ) (ns : List ℕ) → Among m ns → Among (t m) (map t ns)
map-among t m [] a = absurd a
map-among t m (n ∷ ns) (inl e) = inl (ap t e)
map-among t m (n ∷ ns) (inr a) = inr (map-among t m ns a)

has : (w : Trace) (ts : List Trace) → ((list_any (same_trace w) ts ≡ true) × Among w ts) ⊎ ((list_any (same_trace w) ts ≡ false) × (Among w ts → ⊥))
has w [] = inr (refl, λ a. a)
has w (t ∷ ts) =
    elim (trace-cases w t) [
      | inl same ↦ inl (rw same.0, inl (sym same.1))
      | inr other ↦ elim (has w ts) [
        | inl h ↦ inl (rw (other.0, h.0), inr h.1)
        | inr h ↦ inr (rw (other.0, h.0), λ a. elim a [ inl e ↦ other.1 (sym e) | inr b ↦ h.1 b ])
      ]
    ]

-- a trace counts where it is not in the rest
counts : (w : Trace) (ts : List Trace) → (Among w ts × (different (w ∷ ts) ≡ different ts)) ⊎ ((Among w ts → ⊥) × (different (w ∷ ts) ≡ 1 + different ts))
counts w ts =
    elim (has w ts) [
      | inl h ↦ inl (h.1, rw h.0 (omega arith))
      | inr h ↦ inr (h.1, rw h.0 refl)
    ]

-- one side gains what the whole gains, where the whole has all of it
side-le : (w : Trace) (ts ls rs : List Trace) → (Among w ls → Among w ts) → different ts ≤ different ls + different rs → different (w ∷ ts) ≤ different (w ∷ ls) + different rs
side-le w ts ls rs up h =
    elim (counts w ts) [
      | inl s ↦ (let e = s.1 in elim (counts w ls) [ inl u ↦ (let f = u.1 in omega arith) | inr u ↦ (let f = u.1 in omega arith) ])
      | inr s ↦ (let e = s.1 in elim (counts w ls) [ inl u ↦ absurd (s.0 (up u.0)) | inr u ↦ (let f = u.1 in omega arith) ])
    ]

side-eq : (w : Trace) (ts ls rs : List Trace) → (Among w ls → Among w ts) → (Among w ts → Among w ls) → different ts ≡ different ls + different rs → different (w ∷ ts) ≡ different (w ∷ ls) + different rs
side-eq w ts ls rs up down h =
    elim (counts w ts) [
      | inl s ↦ (let e = s.1 in elim (counts w ls) [ inl u ↦ (let f = u.1 in omega arith) | inr u ↦ absurd (u.0 (down s.0)) ])
      | inr s ↦ (let e = s.1 in elim (counts w ls) [ inl u ↦ absurd (s.0 (up u.0)) | inr u ↦ (let f = u.1 in omega arith) ])
    ]

-- the traces of one side are traces of the whole
up : (t : ℕ → Trace) (q : ℕ → Bool) (w : Trace) (ns : List ℕ) → Among w (map t (filter q ns)) → Among w (map t ns)
up t q w ns a =
    let h = among-map t w (filter q ns) a in
    subst (λ (z : Trace). Among z (map t ns)) h.2 (map-among t h.0 ns (among-kept q h.0 ns h.1).0)

put-le : (b : Bool) (t : ℕ → Trace) (n : ℕ) (ns ls rs : List ℕ) → (Among (t n) (map t ls) → Among (t n) (map t ns)) → (Among (t n) (map t rs) → Among (t n) (map t ns))
    → different (map t ns) ≤ different (map t ls) + different (map t rs) → different (t n ∷ map t ns) ≤ different (map t (cond b (n ∷ ls) ls)) + different (map t (cond (not b) (n ∷ rs) rs))
put-le true t n ns ls rs f g h = side-le (t n) (map t ns) (map t ls) (map t rs) f h
put-le false t n ns ls rs f g h =
    let turned : different (map t ns) ≤ different (map t rs) + different (map t ls) = omega arith in
    let r = side-le (t n) (map t ns) (map t rs) (map t ls) g turned in
    omega (arith, r)

-- the two sides have together no fewer different traces
pub different-le : (t : ℕ → Trace) (q : ℕ → Bool) (ns : List ℕ) → different (map t ns) ≤ different (map t (filter q ns)) + different (map t (filter (fails q) ns))
different-le t q [] = omega arith
different-le t q (n ∷ ns) =
    put-le (q n) t n ns (filter q ns) (filter (fails q) ns) (up t q (t n) ns) (up t (fails q) (t n) ns) (different-le t q ns)

put-eq : (b : Bool) (t : ℕ → Trace) (n : ℕ) (ns ls rs : List ℕ) → (Among (t n) (map t ls) → Among (t n) (map t ns)) → (Among (t n) (map t rs) → Among (t n) (map t ns))
    → (b ≡ true → Among (t n) (map t ns) → Among (t n) (map t ls)) → (b ≡ false → Among (t n) (map t ns) → Among (t n) (map t rs))
    → different (map t ns) ≡ different (map t ls) + different (map t rs) → different (t n ∷ map t ns) ≡ different (map t (cond b (n ∷ ls) ls)) + different (map t (cond (not b) (n ∷ rs) rs))
put-eq true t n ns ls rs f g k l h = side-eq (t n) (map t ns) (map t ls) (map t rs) f (k refl) h
put-eq false t n ns ls rs f g k l h =
    let turned : different (map t ns) ≡ different (map t rs) + different (map t ls) = omega arith in
    let r = side-eq (t n) (map t ns) (map t rs) (map t ls) g (l refl) turned in
    omega (arith, r)

-- no trace stands on both sides
abbrev pub Apart : (ℕ → Trace) → (ℕ → Bool) → List ℕ → Type 0
Apart t q ns = (m n : ℕ) → Among m ns → Among n ns → q m ≡ true → q n ≡ false → t m ≢ t n

stays : (t : ℕ → Trace) (q : ℕ → Bool) (n : ℕ) (ns : List ℕ) → Apart t q (n ∷ ns) → q n ≡ true → Among (t n) (map t ns) → Among (t n) (map t (filter q ns))
stays t q n ns apart is a =
    let h = among-map t (t n) ns a in
    elim (cases_Bool (q h.0)) [
      | inl y ↦ subst (λ (z : Trace). Among z (map t (filter q ns))) h.2 (map-among t h.0 (filter q ns) (kept-among q h.0 ns h.1 y))
      | inr f ↦ absurd (apart n h.0 (inl refl) (inr h.1) is f (sym h.2))
    ]

stays-no : (t : ℕ → Trace) (q : ℕ → Bool) (n : ℕ) (ns : List ℕ) → Apart t q (n ∷ ns) → q n ≡ false → Among (t n) (map t ns) → Among (t n) (map t (filter (fails q) ns))
stays-no t q n ns apart is a =
    let h = among-map t (t n) ns a in
    elim (cases_Bool (q h.0)) [
      | inl y ↦ absurd (apart h.0 n (inr h.1) (inl refl) y is h.2)
      | inr f ↦ subst (λ (z : Trace). Among z (map t (filter (fails q) ns))) h.2 (map-among t h.0 (filter (fails q) ns) (kept-among (fails q) h.0 ns h.1 (ap not f)))
    ]

-- then they have no more
pub different-eq : (t : ℕ → Trace) (q : ℕ → Bool) (ns : List ℕ) → Apart t q ns → different (map t ns) ≡ different (map t (filter q ns)) + different (map t (filter (fails q) ns))
different-eq t q [] apart = refl
different-eq t q (n ∷ ns) apart =
    put-eq (q n) t n ns (filter q ns) (filter (fails q) ns) (up t q (t n) ns) (up t (fails q) (t n) ns) (stays t q n ns apart) (stays-no t q n ns apart)
    (different-eq t q ns (λ m k a b. apart m k (inr a) (inr b)))

pub different-some : (w : Trace) (ts : List Trace) → Among w ts → 1 ≤ different ts
different-some w [] a = absurd a
different-some w (t ∷ ts) (inl e) =
    elim (counts t ts) [
      | inl s ↦ (let h = different-some t ts s.0 in let k = s.1 in omega arith)
      | inr s ↦ (let k = s.1 in omega arith)
    ]
different-some w (t ∷ ts) (inr a) =
    let h = different-some w ts a in
    elim (counts t ts) [ inl s ↦ (let k = s.1 in omega arith) | inr s ↦ (let k = s.1 in omega arith) ]

pub different-one : (w : Trace) (ts : List Trace) → ((t : Trace) → Among t ts → t ≡ w) → different ts ≤ 1
different-one w [] f = omega arith
different-one w (t ∷ []) f = omega arith
different-one w (t ∷ u ∷ ts) f =
    elim (counts t (u ∷ ts)) [
      | inl s ↦ (let h = different-one w (u ∷ ts) (λ v a. f v (inr a)) in let k = s.1 in omega arith)
      | inr s ↦ absurd (s.0 (inl (f u (inr (inl refl)) ∙ sym (f t (inl refl)))))
    ]
