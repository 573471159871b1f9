-- Whether two words are the same.
use Rattle.std.proofs.Common.{◌≡◌, ℕ, ◌==◌, ◌&&◌, Bool, true, false, List, Option, Some, None, refl, sym, ap, ◌∙◌, arith}
use Rattle.std.proofs.lemmas.Bool.{and_parts, eqb-true}
use Rattle.std.proofs.lemmas.Cmp.{eq_by_cmp_equiv, nat_list_cmp_total}
use Rattle.std.proofs.lemmas.Map.Text.{is_eq-slice_cmp}
use Rattle.std.proofs.lemmas.Slice.Eq.{bytes_eq-Decides}
use Rattle.std.specs.Cmp.Lexicographic.{slice_cmp}
use Rattle.std.specs.Option.{option_cmp, option_map}
use Rattle.std.specs.Ordering.{is_eq, nat_cmp, ordering_then}
use Rattle.std.specs.Str.{bytes_eq}
use Rattle.std.specs.declared.cmp.Ordering.{Ordering}
use Rattle.std.specs.declared.cmp.Ordering.TheVariants.{Less, Equal, Greater}
use Rattle.names.specs.contracts.named.NamedOrd.TheImpl as ones
use Rattle.names.specs.contracts.named_set.NamedSetOrd.TheImpl as sets
use Rattle.names.specs.contracts.package_word.PackageWordOrd.TheImpl as packages
use Rattle.names.specs.declared.named.Named.{Named}
use Rattle.names.specs.declared.named.Named.TheVariants.{Id, Name}
use Rattle.names.specs.declared.named_set.NamedSet.{NamedSet}
use Rattle.names.specs.declared.named_set.NamedSet.TheVariants.{One, OfType, All}
use Rattle.names.specs.declared.package_word.PackageWord.{PackageWord}
use Rattle.names.specs.declared.package_word.PackageWord.TheVariants as word
use Rattle.names.specs.Named.{NamedOf, ById, ByName, named_of}
use Rattle.names.specs.NamedSet.{NamedSetOf, SetOfOne, SetOfType, SetOfAll, named_set_of}
use Rattle.names.specs.PackageWord.{PackageWordOf, Numbered, Called, package_word_of}
use Rattle.names.specs.SameWord.{is_same, is_same_one, is_same_package, is_same_word}

-- ---- the order that the code's words have

abbrev pub order : NamedSet → NamedSet → Ordering
order = sets.cmp-value.it

is_eq-nat_cmp : (a b : ℕ) → is_eq (nat_cmp a b) ≡ (a == b)
is_eq-nat_cmp a b = grind arith

is_eq-then : (a b : Ordering) → is_eq (ordering_then a b) ≡ (is_eq a && is_eq b)
is_eq-then Less b = refl
is_eq-then Equal b = refl
is_eq-then Greater b = refl

same_word : (a b : PackageWord) → is_eq (packages.cmp-value.it a b) ≡ is_same_word (package_word_of a) (package_word_of b)
same_word (word.Number a) (word.Number b) = is_eq-nat_cmp a b
same_word (word.Number a) (word.Name b) = refl
same_word (word.Name a) (word.Number b) = refl
same_word (word.Name a) (word.Name b) = is_eq-slice_cmp a.now b.now

same_package : (a b : Option PackageWord) → is_eq (option_cmp packages.cmp-value.it a b) ≡ is_same_package (option_map package_word_of a) (option_map package_word_of b)
same_package None None = refl
same_package None (Some b) = refl
same_package (Some a) None = refl
same_package (Some a) (Some b) = same_word a b

same_one : (a b : Named) → is_eq (ones.cmp-value.it a b) ≡ is_same_one (named_of a) (named_of b)
same_one (Id a) (Id b) = is_eq-nat_cmp a.0 b.0
same_one (Id a) (Name q c d) = refl
same_one (Name p a b) (Id c) = refl
same_one (Name p a b) (Name q c d) =
    is_eq-then (option_cmp packages.cmp-value.it p q) (ordering_then (slice_cmp nat_cmp a.now c.now) (slice_cmp nat_cmp b.now d.now))
    ∙ ap (λ (same : Bool). same && is_eq (ordering_then (slice_cmp nat_cmp a.now c.now) (slice_cmp nat_cmp b.now d.now))) (same_package p q)
    ∙ ap (λ (same : Bool). is_same_package (option_map package_word_of p) (option_map package_word_of q) && same)
    (is_eq-then (slice_cmp nat_cmp a.now c.now) (slice_cmp nat_cmp b.now d.now)
    ∙ ap (λ (same : Bool). same && is_eq (slice_cmp nat_cmp b.now d.now)) (is_eq-slice_cmp a.now c.now)
    ∙ ap (λ (same : Bool). bytes_eq a.now c.now && same) (is_eq-slice_cmp b.now d.now))

pub same_set : (a b : NamedSet) → is_eq (order a b) ≡ is_same (named_set_of a) (named_set_of b)
same_set (One a) (One b) = same_one a b
same_set (One a) (OfType q b) = refl
same_set (One a) All = refl
same_set (OfType p a) (One b) = refl
same_set (OfType p a) (OfType q b) =
    is_eq-then (option_cmp packages.cmp-value.it p q) (slice_cmp nat_cmp a.now b.now)
    ∙ ap (λ (same : Bool). same && is_eq (slice_cmp nat_cmp a.now b.now)) (same_package p q)
    ∙ ap (λ (same : Bool). is_same_package (option_map package_word_of p) (option_map package_word_of q) && same) (is_eq-slice_cmp a.now b.now)
same_set (OfType p a) All = refl
same_set All (One b) = refl
same_set All (OfType q b) = refl
same_set All All = refl

-- ---- what is the same

pub bytes_eq-sym : (a b : List ℕ) → bytes_eq a b ≡ bytes_eq b a
bytes_eq-sym a b = sym (is_eq-slice_cmp a b) ∙ (eq_by_cmp_equiv nat_list_cmp_total).symm a b ∙ is_eq-slice_cmp b a

nat_eq-sym : (a b : ℕ) → (a == b) ≡ (b == a)
nat_eq-sym a b = grind arith

same_package-sym : (a b : Option PackageWordOf) → is_same_package a b ≡ is_same_package b a
same_package-sym None None = refl
same_package-sym None (Some b) = refl
same_package-sym (Some a) None = refl
same_package-sym (Some (Numbered a)) (Some (Numbered b)) = nat_eq-sym a b
same_package-sym (Some (Numbered a)) (Some (Called b)) = refl
same_package-sym (Some (Called a)) (Some (Numbered b)) = refl
same_package-sym (Some (Called a)) (Some (Called b)) = bytes_eq-sym a b

same_one-sym : (a b : NamedOf) → is_same_one a b ≡ is_same_one b a
same_one-sym (ById a) (ById b) = nat_eq-sym a.0 b.0
same_one-sym (ById a) (ByName q c d) = refl
same_one-sym (ByName p a b) (ById c) = refl
same_one-sym (ByName p a b) (ByName q c d) =
    ap (λ (same : Bool). same && (bytes_eq a c && bytes_eq b d)) (same_package-sym p q)
    ∙ ap (λ (same : Bool). is_same_package q p && (same && bytes_eq b d)) (bytes_eq-sym a c)
    ∙ ap (λ (same : Bool). is_same_package q p && (bytes_eq c a && same)) (bytes_eq-sym b d)

pub is_same-sym : (a b : NamedSetOf) → is_same a b ≡ is_same b a
is_same-sym (SetOfOne a) (SetOfOne b) = same_one-sym a b
is_same-sym (SetOfOne a) (SetOfType q b) = refl
is_same-sym (SetOfOne a) SetOfAll = refl
is_same-sym (SetOfType p a) (SetOfOne b) = refl
is_same-sym (SetOfType p a) (SetOfType q b) =
    ap (λ (same : Bool). same && bytes_eq a b) (same_package-sym p q) ∙ ap (λ (same : Bool). is_same_package q p && same) (bytes_eq-sym a b)
is_same-sym (SetOfType p a) SetOfAll = refl
is_same-sym SetOfAll (SetOfOne b) = refl
is_same-sym SetOfAll (SetOfType q b) = refl
is_same-sym SetOfAll SetOfAll = refl

-- the same word is that word
bytes_is : (a b : List ℕ) → bytes_eq a b ≡ true → a ≡ b
bytes_is a b same = (bytes_eq-Decides a b).0 same

package_is : (a b : Option PackageWordOf) → is_same_package a b ≡ true → a ≡ b
package_is None None same = refl
package_is None (Some b) same = absurd cc
package_is (Some a) None same = absurd cc
package_is (Some (Numbered a)) (Some (Numbered b)) same = ap (λ (n : ℕ). Some (Numbered n)) (eqb-true a b same)
package_is (Some (Numbered a)) (Some (Called b)) same = absurd cc
package_is (Some (Called a)) (Some (Numbered b)) same = absurd cc
package_is (Some (Called a)) (Some (Called b)) same = ap (λ (name : List ℕ). Some (Called name)) (bytes_is a b same)

one_is : (a b : NamedOf) → is_same_one a b ≡ true → a ≡ b
one_is (ById a) (ById b) same = ap (λ (n : ℕ). ById (record { 0 = n })) (eqb-true a.0 b.0 same)
one_is (ById a) (ByName q c d) same = absurd cc
one_is (ByName p a b) (ById c) same = absurd cc
one_is (ByName p a b) (ByName q c d) same =
    let parts = and_parts (is_same_package p q) (bytes_eq a c && bytes_eq b d) same in
    let names = and_parts (bytes_eq a c) (bytes_eq b d) parts.1 in
    ap (λ (in_package : Option PackageWordOf). ByName in_package a b) (package_is p q parts.0)
    ∙ ap (λ (type_name : List ℕ). ByName q type_name b) (bytes_is a c names.0)
    ∙ ap (λ (entry_name : List ℕ). ByName q c entry_name) (bytes_is b d names.1)

pub is_same-is : (a b : NamedSetOf) → is_same a b ≡ true → a ≡ b
is_same-is (SetOfOne a) (SetOfOne b) same = ap (λ (one : NamedOf). SetOfOne one) (one_is a b same)
is_same-is (SetOfOne a) (SetOfType q b) same = absurd cc
is_same-is (SetOfOne a) SetOfAll same = absurd cc
is_same-is (SetOfType p a) (SetOfOne b) same = absurd cc
is_same-is (SetOfType p a) (SetOfType q b) same =
    let parts = and_parts (is_same_package p q) (bytes_eq a b) same in
    ap (λ (in_package : Option PackageWordOf). SetOfType in_package a) (package_is p q parts.0) ∙ ap (λ (type_name : List ℕ). SetOfType q type_name) (bytes_is a b parts.1)
is_same-is (SetOfType p a) SetOfAll same = absurd cc
is_same-is SetOfAll (SetOfOne b) same = absurd cc
is_same-is SetOfAll (SetOfType q b) same = absurd cc
is_same-is SetOfAll SetOfAll same = refl

-- a word is the same as itself
both : (a b : Bool) → a ≡ true → b ≡ true → (a && b) ≡ true
both true b a_is b_is = b_is
both false b a_is b_is = a_is

number-itself : (n : ℕ) → (n == n) ≡ true
number-itself n = grind arith

bytes-itself : (a : List ℕ) → bytes_eq a a ≡ true
bytes-itself a = (bytes_eq-Decides a a).1 refl

package-itself : (a : Option PackageWordOf) → is_same_package a a ≡ true
package-itself None = refl
package-itself (Some (Numbered number)) = number-itself number
package-itself (Some (Called name)) = bytes-itself name

pub is_same-itself : (a : NamedSetOf) → is_same a a ≡ true
is_same-itself (SetOfOne (ById id)) = number-itself id.0
is_same-itself (SetOfOne (ByName p a b)) = both _ _ (package-itself p) (both _ _ (bytes-itself a) (bytes-itself b))
is_same-itself (SetOfType p a) = both _ _ (package-itself p) (bytes-itself a)
is_same-itself SetOfAll = refl

-- ---- a word of the code for a word

at_package : PackageWordOf → PackageWord
at_package (Numbered number) = word.Number number
at_package (Called name) = word.Name (record { ref_ptr = (0, 0); now = name })

at_one : NamedOf → Named
at_one (ById id) = Id id
at_one (ByName p a b) = Name (option_map at_package p) (record { ref_ptr = (0, 0); now = a }) (record { ref_ptr = (0, 0); now = b })

pub at_word : NamedSetOf → NamedSet
at_word (SetOfOne a) = One (at_one a)
at_word (SetOfType p a) = OfType (option_map at_package p) (record { ref_ptr = (0, 0); now = a })
at_word SetOfAll = All

package_of-at : (p : Option PackageWordOf) → option_map package_word_of (option_map at_package p) ≡ p
unfolding at_package
package_of-at None = refl
package_of-at (Some (Numbered number)) = refl
package_of-at (Some (Called name)) = refl

named_of-at : (a : NamedOf) → named_of (at_one a) ≡ a
unfolding at_one
named_of-at (ById id) = refl
named_of-at (ByName p a b) = ap (λ (in_package : Option PackageWordOf). ByName in_package a b) (package_of-at p)

pub named_set_of-at : (a : NamedSetOf) → named_set_of (at_word a) ≡ a
unfolding at_word
named_set_of-at (SetOfOne a) = ap (λ (one : NamedOf). SetOfOne one) (named_of-at a)
named_set_of-at (SetOfType p a) = ap (λ (in_package : Option PackageWordOf). SetOfType in_package a) (package_of-at p)
named_set_of-at SetOfAll = refl
