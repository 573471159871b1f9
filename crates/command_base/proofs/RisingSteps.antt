-- The targets of a map that is made rise, and are of one package.
use Rattle.std.proofs.Common.{◌≡◌, ℕ, ◌+◌, ◌<◌, ◌≤◌, ◌==◌, Bool, true, false, List, [], ◌∷◌, map, fold, slice_get, Option, Some, None, Ordering, Less, Equal, Greater, refl, sym, ap, subst, ◌∙◌, arith, if◌then◌else◌}
use Rattle.std.specs.BTreeSet.{insert_key}
use Rattle.std.specs.Cmp.{ranks}
use Rattle.std.specs.List.{All, cons_option, filter_map}
use Rattle.std.specs.Option.{option_map, option_map_or}
use Rattle.std.specs.Ordering.{MatchOrdering, match_ordering, nat_cmp}
use Rattle.std.proofs.lemmas.Bool.{eqb-true}
use Rattle.std.proofs.lemmas.List.{map-id}
use Rattle.std.proofs.lemmas.List.Elements.{All-cons, All-nil}
use Rattle.command_base.specs.answer_text.res_value.ResId.{package_of}
use Rattle.command_base.specs.answer_text.overlay_map.Table.{TableOf, rows_of}
use Rattle.command_base.specs.answer_text.type_chunks.Row.{RowOf}
use Rattle.command_base.specs.FirstRows.{first_row, first_rows, rising}
use Rattle.command_base.specs.MadeMap.{made_map, own_of, package_of_row, pair_of, pairs_in}

-- each number is above the one before it, and the first is at least low
abbrev pub IsRisingFrom : ℕ → List ℕ → Type 0
IsRisingFrom low [] = Unit {0}
IsRisingFrom low (n ∷ ns) = (low ≤ n) × IsRisingFrom (n + 1) ns

lower : (low high : ℕ) (ns : List ℕ) → low ≤ high → IsRisingFrom high ns → IsRisingFrom low ns
lower low high [] le rises = tt
lower low high (n ∷ ns) le rises = (omega (arith, rises.0), rises.1)

-- ---- the ids

rising-insert : (low k : ℕ) (ns : List ℕ) → low ≤ k → IsRisingFrom low ns → IsRisingFrom low (insert_key nat_cmp ns k)
rising-insert low k [] le rises = (le, tt)
rising-insert low k (n ∷ ns) le rises = by (nat_cmp k n) (ranks k n) (λ below. rising-insert (n + 1) k ns below rises.1)
  where
    by : (o : Ordering) → MatchOrdering o (k < n) (k ≡ n) (n < k) → (n + 1 ≤ k → IsRisingFrom (n + 1) (insert_key nat_cmp ns k))
        → IsRisingFrom low (match_ordering o (k ∷ n ∷ ns) (n ∷ ns) (n ∷ insert_key nat_cmp ns k))
    by Less less later = (le, (omega (arith, less), rises.1))
    by Equal same later = rises
    by Greater more later = (rises.0, later (omega (arith, more)))

rising-fold : (ns sorted : List ℕ) → IsRisingFrom 0 sorted → IsRisingFrom 0 (fold (insert_key nat_cmp) sorted ns)
rising-fold [] sorted rises = rises
rising-fold (n ∷ ns) sorted rises = rising-fold ns (insert_key nat_cmp sorted n) (rising-insert 0 n sorted (omega arith) rises)

-- ---- what is made of each, where it keeps the number

rising-filter_map : {A B : Type 0} (before : A → ℕ) (after : B → ℕ) (g : A → Option B) → ((x : A) (y : B) → g x ≡ Some y → after y ≡ before x)
    → (low : ℕ) (xs : List A) → IsRisingFrom low (map before xs) → IsRisingFrom low (map after (filter_map g xs))
rising-filter_map before after g keeps low [] rises = tt
rising-filter_map {A} {B} before after g keeps low (x ∷ xs) rises =
    by (g x) refl (rising-filter_map before after g keeps (before x + 1) xs rises.1)
  where
    by : (o : Option B) → g x ≡ o → IsRisingFrom (before x + 1) (map after (filter_map g xs)) → IsRisingFrom low (map after (cons_option o (filter_map g xs)))
    by None e others = lower low (before x + 1) (map after (filter_map g xs)) (omega (arith, rises.0)) others
    by (Some y) e others =
        let same = keeps x y e in
        (omega (arith, rises.0, same), subst (λ (n : ℕ). IsRisingFrom (n + 1) (map after (filter_map g xs))) (sym same) others)

all-filter_map : {A B : Type 0} (P : B → Type 0) (g : A → Option B) → ((x : A) (y : B) → g x ≡ Some y → P y) → (xs : List A) → All P (filter_map g xs)
all-filter_map P g holds [] = All-nil P
all-filter_map {A} {B} P g holds (x ∷ xs) = by (g x) refl (all-filter_map P g holds xs)
  where
    by : (o : Option B) → g x ≡ o → All P (filter_map g xs) → All P (cons_option o (filter_map g xs))
    by None e others = others
    by (Some y) e others = All-cons P y (filter_map g xs) (holds x y e) others

-- the first row of an id is of that id
first_row-id : (rows : List RowOf) (id : ℕ) (row : RowOf) → first_row rows id ≡ Some row → row.id ≡ id
first_row-id [] id row found = absurd cc
first_row-id (first ∷ rows) id row found = by (first.id == id) refl (first_row-id rows id row) found
  where
    by : (b : Bool) → (first.id == id) ≡ b → (first_row rows id ≡ Some row → row.id ≡ id) → (if b then Some first else first_row rows id) ≡ Some row → row.id ≡ id
    by true e others is = ap (λ (o : Option RowOf). option_map_or (λ r. r.id) o 0) (sym is) ∙ eqb-true first.id id e
    by false e others is = others is

first_rows-rise : (rows : List RowOf) → IsRisingFrom 0 (map (λ row. row.id) (first_rows rows))
first_rows-rise rows =
    rising-filter_map (λ id. id) (λ row. row.id) (first_row rows) (λ id row. first_row-id rows id row) 0 (rising (map (λ row. row.id) rows))
    (subst (IsRisingFrom 0) (sym (map-id (rising (map (λ row. row.id) rows)))) (rising-fold (map (λ row. row.id) rows) [] tt))

-- ---- the pairs

option_pair : (id : ℕ) (own : Option ℕ) (pair : ℕ × ℕ) → option_map (λ o. (id, o)) own ≡ Some pair → pair.0 ≡ id
option_pair id None pair is = absurd cc
option_pair id (Some own) pair is = ap (λ (o : Option (ℕ × ℕ)). option_map_or (λ p. p.0) o 0) (sym is)

-- a target of this package
abbrev pub IsTargetOf : ℕ → (ℕ × ℕ) → Type 0
IsTargetOf package_id pair = package_of (record { 0 = pair.0 }) ≡ package_id

-- a pair has the row's id, which is of the package
pair_of-target : (target overlay : TableOf) (package_id : ℕ) (row : RowOf) (pair : ℕ × ℕ) → pair_of target overlay package_id row ≡ Some pair
    → (pair.0 ≡ row.id) × IsTargetOf package_id pair
unfolding pair_of
pair_of-target target overlay package_id row pair is = by (package_of_row row == package_id) refl is
  where
    same : pair.0 ≡ row.id → package_of_row row ≡ package_id → IsTargetOf package_id pair
    same target is = ap (λ (n : ℕ). package_of (record { 0 = n })) target ∙ is

    by : (b : Bool) → (package_of_row row == package_id) ≡ b → (if b then option_map (λ own. (row.id, own)) (own_of target overlay row) else None) ≡ Some pair
        → (pair.0 ≡ row.id) × IsTargetOf package_id pair
    by true e is = let target = option_pair row.id (own_of target overlay row) pair is in (target, same target (eqb-true (package_of_row row) package_id e))
    by false e is = absurd cc

pub made-rises : (target overlay : TableOf) → (package_id : ℕ) × IsRisingFrom 0 (map (λ pair. pair.0) (made_map target overlay)) × All (IsTargetOf package_id) (made_map target overlay)
unfolding made_map
made-rises target overlay = by (slice_get (rows_of target) 0)
  where
    by : (first : Option RowOf)
        → (package_id : ℕ) × IsRisingFrom 0 (map (λ pair. pair.0) (option_map_or (λ row. pairs_in target overlay (package_of_row row)) first []))
        × All (IsTargetOf package_id) (option_map_or (λ row. pairs_in target overlay (package_of_row row)) first [])
    by None = (0, tt, All-nil (IsTargetOf 0))
    by (Some row) =
        let package_id = package_of_row row in
        let rows = first_rows (rows_of target) in (
          package_id,
          rising-filter_map (λ first. first.id) (λ pair. pair.0) (pair_of target overlay package_id) (λ first pair is. (pair_of-target target overlay package_id first pair is).0) 0 rows (first_rows-rise (rows_of target)),
          all-filter_map (IsTargetOf package_id) (pair_of target overlay package_id) (λ first pair is. (pair_of-target target overlay package_id first pair is).1) rows,
        )
