-- The order of labels.
use Rattle.std.proofs.Common.{◌≡◌, ℕ, true, List, refl, ap}
use Rattle.std.proofs.lemmas.Cmp.{nat_cmp_total, nat_list_cmp_total, on_total, then_total}
use Rattle.std.proofs.lemmas.Map.Lookups.{CmpEqualImpliesEq, exact_bytes, exact_pairs, exact_unsigned}
use Rattle.std.specs.Cmp.{IsTotalOrder}
use Rattle.std.specs.Cmp.Lexicographic.{slice_cmp}
use Rattle.std.specs.Ordering.{is_eq, nat_cmp, ordering_reverse, ordering_then}
use Rattle.std.specs.declared.cmp.Ordering.{Ordering}
use Rattle.std.specs.declared.cmp.Ordering.TheVariants.{Less, Equal, Greater}
use Rattle.names.specs.Label.{FullNameOf, LabelOf, ByName, ById, name_cmp, label_cmp}

names_total : IsTotalOrder name_cmp
names_total =
    then_total (on_total (λ (name : FullNameOf). name.package_id) nat_cmp_total)
    (then_total (on_total (λ (name : FullNameOf). name.type_name) nat_list_cmp_total) (on_total (λ (name : FullNameOf). name.entry_name) nat_list_cmp_total))

antisymm : (a b : LabelOf) → label_cmp a b ≡ ordering_reverse (label_cmp b a)
antisymm (ByName a) (ByName b) = names_total.antisymm a b
antisymm (ByName a) (ById b) = refl
antisymm (ById a) (ByName b) = refl
antisymm (ById a) (ById b) = nat_cmp_total.antisymm a.0 b.0

trans : (a b c : LabelOf) → label_cmp a b ≡ Less → label_cmp b c ≡ Less → label_cmp a c ≡ Less
trans (ByName a) (ByName b) (ByName c) d e = names_total.trans a b c d e
trans (ByName a) (ByName b) (ById c) d e = refl
trans (ByName a) (ById b) (ByName c) d e = absurd cc
trans (ByName a) (ById b) (ById c) d e = refl
trans (ById a) (ByName b) (ByName c) d e = absurd cc
trans (ById a) (ByName b) (ById c) d e = absurd cc
trans (ById a) (ById b) (ByName c) d e = absurd cc
trans (ById a) (ById b) (ById c) d e = nat_cmp_total.trans a.0 b.0 c.0 d e

congr : (a b c : LabelOf) → label_cmp a b ≡ Equal → label_cmp a c ≡ label_cmp b c
congr (ByName a) (ByName b) (ByName c) e = names_total.congr a b c e
congr (ByName a) (ByName b) (ById c) e = refl
congr (ByName a) (ById b) c e = absurd cc
congr (ById a) (ByName b) c e = absurd cc
congr (ById a) (ById b) (ByName c) e = refl
congr (ById a) (ById b) (ById c) e = nat_cmp_total.congr a.0 b.0 c.0 e

pub label_cmp_total : IsTotalOrder label_cmp
label_cmp_total = record { antisymm = antisymm; trans = trans; congr = congr }

pub equal_from_is_eq : (r : Ordering) → is_eq r ≡ true → r ≡ Equal
equal_from_is_eq Less e = absurd cc
equal_from_is_eq Equal e = refl
equal_from_is_eq Greater e = absurd cc

-- ---- the same label

names_exact : (a b : FullNameOf) → name_cmp a b ≡ Equal → a ≡ b
names_exact a b e =
    let by_bytes : List ℕ → List ℕ → Ordering = slice_cmp nat_cmp in
    let named : (ℕ × (List ℕ × List ℕ)) → FullNameOf = λ p. record { package_id = p.0; type_name = p.1.0; entry_name = p.1.1 } in
    ap named
    (exact_pairs nat_cmp (λ (x y : List ℕ × List ℕ). ordering_then (by_bytes x.0 y.0) (by_bytes x.1 y.1)) exact_unsigned (exact_pairs by_bytes by_bytes exact_bytes exact_bytes)
    (a.package_id, (a.type_name, a.entry_name)) (b.package_id, (b.type_name, b.entry_name)) e)

pub label_cmp_exact : CmpEqualImpliesEq label_cmp
label_cmp_exact (ByName a) (ByName b) e = ap (λ (name : FullNameOf). ByName name) (names_exact a b e)
label_cmp_exact (ByName a) (ById b) e = absurd cc
label_cmp_exact (ById a) (ByName b) e = absurd cc
label_cmp_exact (ById a) (ById b) e = let by_number : ℕ → LabelOf = λ n. ById (record { 0 = n }) in ap by_number (exact_unsigned a.0 b.0 e)
