-- What a name stands for, id by id.
use Rattle.std.proofs.Common.{◌≡◌, ℕ, ◌==◌, not, Bool, true, false, cond, List, [], ◌∷◌, ◌++◌, find, Option, Some, None, refl, ap, arith}
use Rattle.std.proofs.lemmas.List.Sums.{fold-append}
use Rattle.res_value.specs.ResId.{package_of}
use Rattle.res_value.specs.declared.res_id.ResId.{ResId}
use Rattle.names.specs.declared.found.Found.{Found}
use Rattle.names.specs.declared.found.Found.TheVariants.{Nothing, One, Two}
use Rattle.names.specs.Found.{is_of_another, found_among, found_beside}
use Rattle.names.specs.FoundSoFar.{also, also_each, also_if, beside, first_of}

-- ---- one id after the other

each-two : (first other : ResId) (ids : List ResId) → also_each (Two first other) ids ≡ Two first other
each-two first other [] = refl
each-two first other (id ∷ ids) = each-two first other ids

each-one : (first : ResId) (ids : List ResId) → also_each (One first) ids ≡ found_beside first (find (is_of_another first) ids)
each-one first [] = refl
each-one first (id ∷ ids) = by (package_of id == package_of first) (each-one first ids)
  where
    by : (same : Bool) → also_each (One first) ids ≡ found_beside first (find (is_of_another first) ids)
        → also_each (cond same (One first) (Two first id)) ids ≡ found_beside first (cond (not same) (Some id) (find (is_of_another first) ids))
    by true others = others
    by false others = each-two first id ids

pub each-among : (ids : List ResId) → also_each Nothing ids ≡ found_among ids
each-among [] = refl
each-among (first ∷ ids) = each-one first ids

pub each-append : (found : Found) (ids others : List ResId) → also_each found (ids ++ others) ≡ also_each (also_each found ids) others
each-append found ids others = fold-append also found ids others

-- ---- an id that was noted

same_number : (n : ℕ) → (n == n) ≡ true
same_number n = grind arith

beside-itself : (id : ResId) → beside id id ≡ One id
beside-itself id = ap (λ (same : Bool). cond same (One id) (Two id id)) (same_number (package_of id))

beside-again : (first id : ResId) (same : Bool) → (package_of id == package_of first) ≡ same → also (cond same (One first) (Two first id)) id ≡ cond same (One first) (Two first id)
beside-again first id true is = ap (λ (same : Bool). cond same (One first) (Two first id)) is
beside-again first id false is = refl

-- the same id once more
pub also-again : (found : Found) (id : ResId) → also (also found id) id ≡ also found id
also-again Nothing id = beside-itself id
also-again (One first) id = beside-again first id (package_of id == package_of first) refl
also-again (Two first other) id = refl

pub if-again : (found : Found) (has : Bool) (id : ResId) → also_if (also_if found has id) has id ≡ also_if found has id
if-again found true id = also-again found id
if-again found false id = refl

-- an id that changes nothing, behind another one
one_not_nothing : (id : ResId) → One id ≡ Nothing → ⊥
one_not_nothing id same = cc

beside-kept : (first id other : ResId) (same : Bool) → beside first other ≡ One first → also (cond same (One first) (Two first id)) other ≡ cond same (One first) (Two first id)
beside-kept first id other true kept = kept
beside-kept first id other false kept = refl

also-kept : (found : Found) (id other : ResId) → also found other ≡ found → also (also found id) other ≡ also found id
also-kept Nothing id other kept = absurd (one_not_nothing other kept)
also-kept (One first) id other kept = beside-kept first id other (package_of id == package_of first) kept
also-kept (Two first next) id other kept = refl

pub if-kept : (found : Found) (has has_other : Bool) (id other : ResId) → also_if found has_other other ≡ found → also_if (also_if found has id) has_other other ≡ also_if found has id
if-kept found has false id other kept = refl
if-kept found true true id other kept = also-kept found id other kept
if-kept found false true id other kept = kept

-- ---- the first

first-beside : (first : ResId) (other : Option ResId) → first_of (found_beside first other) ≡ Some first
first-beside first None = refl
first-beside first (Some other) = refl

pub first-among : (id : ResId) (ids : List ResId) → first_of (found_among (id ∷ ids)) ≡ Some id
first-among id ids = first-beside id (find (is_of_another id) ids)
