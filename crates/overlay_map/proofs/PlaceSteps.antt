-- Places of rows, as types are added.
use Rattle.std.proofs.Common.{◌≡◌, ℕ, zero, suc, ◌+◌, ◌<◌, ◌≤◌, Bool, true, false, cond, List, [], ◌∷◌, ◌++◌, append_assoc, map, length, replicate, drop, get_or, Option, Some, slice_get, refl, sym, ap, subst, ◌∙◌, arith}
use Rattle.std.specs.Prelude.{◌==◌, ◌%◌, ◌^◌, count_by, All, if◌then◌else◌}
use Rattle.std.proofs.lemmas.Bool.Decides.{nat_tests}
use Rattle.std.proofs.lemmas.Grind.{flat_map-append}
use Rattle.std.proofs.lemmas.List.{append-nil, map-append, drop_more}
use Rattle.std.proofs.lemmas.List.Elements.{All-head, All-tail, filter-append}
use Rattle.std.proofs.lemmas.List.Sums.{sum_by-cons}
use Rattle.type_chunks.specs.type_entries.declared.checked_type.CheckedType.{CheckedType}
use Rattle.type_chunks.specs.Row.{RowOf, with_id}
use Rattle.type_chunks.specs.TypeRows.{row_at, rows_of_type, rows_of_types, rows_of_each}
use Rattle.type_chunks.proofs.type_entries.TypeRowsSteps.{rows_of_types-next, rows_of_types-none}
use Rattle.type_chunks.proofs.type_entries.OwnSteps.{StandsInType, rows-stand}
use Rattle.overlay_map.specs.declared.link.Link.{Link}
use Rattle.overlay_map.specs.declared.heads.Heads.{Heads}
use Rattle.overlay_map.specs.Heads.{head_of}
use Rattle.overlay_map.specs.Links.{numbers_from}
use Rattle.overlay_map.proofs.LinkSteps.{numbers_from-none, numbers_from-past, numbers_from-kept, numbers_from-push}
use Rattle.overlay_map.specs.declared.row_places.RowPlaces.{RowPlaces}
use Rattle.overlay_map.specs.Places.{row_in, numbers_for, ArePlacesOf, AddsType}

-- how many rows an id has among these
abbrev pub count_of : ℕ → List RowOf → ℕ
count_of id rows = count_by (λ row. row.id == id) rows

pub count_of-same : (id : ℕ) (row : RowOf) (rows : List RowOf) → (row.id == id) ≡ true → count_of id (row ∷ rows) ≡ suc (count_of id rows)
count_of-same id row rows same =
    let one : cond (row.id == id) 1 0 ≡ suc zero = rw same refl in
    omega (arith, one, sum_by-cons (λ (r : RowOf). cond (r.id == id) 1 0) row rows)

pub count_of-other : (id : ℕ) (row : RowOf) (rows : List RowOf) → (row.id == id) ≡ false → count_of id (row ∷ rows) ≡ count_of id rows
count_of-other id row rows other =
    let none : cond (row.id == id) 1 0 ≡ zero = rw other refl in
    omega (arith, none, sum_by-cons (λ (r : RowOf). cond (r.id == id) 1 0) row rows)

-- ---- the rows of an id in one type

module _ (checked : CheckedType) (id : ℕ) where
  stands-same : (rows : List RowOf) → All (StandsInType checked) rows → map Some (with_id id rows) ≡ replicate (count_of id rows) (row_at checked (id % 2 ^ 16))
  stands-same [] all = refl
  stands-same (row ∷ rows) all = by (row.id == id) refl (stands-same rows (All-tail (StandsInType checked) row rows all))
    where
      here : StandsInType checked row
      here = All-head (StandsInType checked) row rows all

      by : (same : Bool) → (row.id == id) ≡ same → map Some (with_id id rows) ≡ replicate (count_of id rows) (row_at checked (id % 2 ^ 16))
          → map Some (with_id id (row ∷ rows)) ≡ replicate (count_of id (row ∷ rows)) (row_at checked (id % 2 ^ 16))
      by true e others =
          let is : row.id ≡ id = grind (arith, nat_tests) in
          let stands : row_at checked (id % 2 ^ 16) ≡ Some row = subst (λ (n : ℕ). row_at checked (n % 2 ^ 16) ≡ Some row) is here in
          rw (count_of-same id row rows e, e, stands) (ap (λ (t : List (Option RowOf)). Some row ∷ t) (rw (sym stands) others))
      by false e others = rw (count_of-other id row rows e, e) others

  pub rows-of-one : map Some (with_id id (rows_of_type checked)) ≡ replicate (count_of id (rows_of_type checked)) (row_at checked (id % 2 ^ 16))
  rows-of-one = stands-same (rows_of_type checked) (rows-stand checked)

map-replicate : {X Y : Type 0} (f : X → Y) (n : ℕ) (x : X) → map f (replicate n x) ≡ replicate n (f x)
map-replicate f zero x = refl
map-replicate {X} {Y} f (suc n) x = ap (λ (t : List Y). f x ∷ t) (map-replicate f n x)

-- ---- one type more

pub ArePlacesOf-next : (types : List CheckedType) (rows : List RowOf) (number : ℕ) (checked : CheckedType) (old new : RowPlaces) → slice_get types number ≡ Some checked
    → AddsType number (rows_of_type checked) old new → ArePlacesOf rows types old → ArePlacesOf (rows_of_type checked ++ rows) types new
ArePlacesOf-next types rows number checked old new found adds those id =
    let entry : ℕ = id % 2 ^ 16 in
    let here : row_in types (id % 2 ^ 16) number ≡ row_at checked (id % 2 ^ 16) = rw found refl in
    let of_type : map (row_in types (id % 2 ^ 16)) (replicate (count_of id (rows_of_type checked)) number) ≡ map Some (with_id id (rows_of_type checked)) =
    map-replicate (row_in types (id % 2 ^ 16)) (count_of id (rows_of_type checked)) number ∙ ap (λ (r : Option RowOf). replicate (count_of id (rows_of_type checked)) r) here ∙ sym (rows-of-one checked id) in
    ap (λ (numbers : List ℕ). map (row_in types (id % 2 ^ 16)) numbers) (adds id)
    ∙ map-append (row_in types (id % 2 ^ 16)) (replicate (count_of id (rows_of_type checked)) number) (numbers_for old id)
    ∙ ap (λ (t : List (Option RowOf)). t ++ map (row_in types (id % 2 ^ 16)) (numbers_for old id)) of_type
    ∙ ap (λ (t : List (Option RowOf)). map Some (with_id id (rows_of_type checked)) ++ t) (those id)
    ∙ sym (map-append {B = Option RowOf} Some (with_id id (rows_of_type checked)) (with_id id rows))
    ∙ ap (λ (t : List RowOf). map {B = Option RowOf} Some t) (sym (filter-append (λ (r : RowOf). r.id == id) (rows_of_type checked) rows))

pub rows-from-number : (types : List CheckedType) (number : ℕ) (checked : CheckedType) → number < length types → checked ≡ get_or types number checked
    → rows_of_types (drop number types) ≡ rows_of_type checked ++ rows_of_types (drop (number + 1) types)
rows-from-number types number checked within is =
    ap (λ (t : List CheckedType). rows_of_types t) (drop_more types number checked within ∙ ap (λ (x : CheckedType). x ∷ drop (number + 1) types) (sym is))
    ∙ rows_of_types-next checked (drop (number + 1) types)

pub rows_of_types-append : (types others : List CheckedType) → rows_of_types (types ++ others) ≡ rows_of_types types ++ rows_of_types others
unfolding rows_of_types
rows_of_types-append types others = flat_map-append rows_of_type types others

-- the rows of the next type stand behind those so far
pub rows-moved : (types : List CheckedType) (checked : CheckedType) (left others : List (List RowOf)) (all : List RowOf) → left ≡ rows_of_type checked ∷ others
    → rows_of_types types ++ rows_of_each left ≡ all → rows_of_types (types ++ checked ∷ []) ++ rows_of_each others ≡ all
rows-moved types checked left others all split so_far =
    let one : rows_of_types (checked ∷ []) ≡ rows_of_type checked = rows_of_types-next checked [] ∙ ap (λ (rows : List RowOf). rows_of_type checked ++ rows) rows_of_types-none ∙ append-nil (rows_of_type checked) in
    ap (λ (rows : List RowOf). rows ++ rows_of_each others) (rows_of_types-append types (checked ∷ []) ∙ ap (λ (rows : List RowOf). rows_of_types types ++ rows) one)
    ∙ append_assoc (rows_of_types types) (rows_of_type checked) (rows_of_each others)
    ∙ ap (λ (lists : List (List RowOf)). rows_of_types types ++ rows_of_each lists) (sym split)
    ∙ so_far

-- ---- one row more of a type

count-more : (number left : ℕ) (numbers : List ℕ) → replicate left number ++ number ∷ numbers ≡ replicate (suc left) number ++ numbers
count-more number zero numbers = refl
count-more number (suc left) numbers = ap (λ (t : List ℕ). number ∷ t) (count-more number left numbers)

-- what is still to come before the numbers of an id, once a row was added
pub still-to-come : (id number : ℕ) (row : RowOf) (left : List RowOf) (old new : List ℕ) → new ≡ (if row.id == id then number ∷ old else old)
    → replicate (count_of id left) number ++ new ≡ replicate (count_of id (row ∷ left)) number ++ old
still-to-come id number row left old new is = by (row.id == id) refl
  where
    by : (same : Bool) → (row.id == id) ≡ same → replicate (count_of id left) number ++ new ≡ replicate (count_of id (row ∷ left)) number ++ old
    by true e =
        let more : new ≡ number ∷ old = is ∙ rw e refl in
        ap (λ (t : List ℕ). replicate (count_of id left) number ++ t) more
        ∙ count-more number (count_of id left) old
        ∙ ap (λ (n : ℕ). replicate n number ++ old) (sym (count_of-same id row left e))
    by false e =
        let same : new ≡ old = is ∙ rw e refl in
        ap (λ (t : List ℕ). replicate (count_of id left) number ++ t) same ∙ ap (λ (n : ℕ). replicate n number ++ old) (sym (count_of-other id row left e))

-- a link more for an id
pub link-pushed : (links : List Link) (link : Link) (old new : Heads) (id head : ℕ) → ((other : ℕ) → head_of old other ≤ length links) → head ≡ length links + 1 → link.next ≡ head_of old id
    → ((other : ℕ) → head_of new other ≡ (if id == other then head else head_of old other))
    → (other : ℕ) → numbers_from (links ++ link ∷ []) (head_of new other) ≡ (if id == other then link.type_number ∷ numbers_from links (head_of old other) else numbers_from links (head_of old other))
link-pushed links link old new id head linked last next sets other = by (id == other) refl
  where
    by : (same : Bool) → (id == other) ≡ same
        → numbers_from (links ++ link ∷ []) (head_of new other) ≡ (if same then link.type_number ∷ numbers_from links (head_of old other) else numbers_from links (head_of old other))
    by true e =
        let is : id ≡ other = grind (arith, nat_tests) in
        let here : head_of new other ≡ length links + 1 = sets other ∙ rw e last in
        ap (λ (n : ℕ). numbers_from (links ++ link ∷ []) n) here ∙ numbers_from-push links link
        ∙ ap (λ (n : ℕ). link.type_number ∷ numbers_from links n) (next ∙ ap (λ (n : ℕ). head_of old n) is)
    by false e =
        let here : head_of new other ≡ head_of old other = sets other ∙ rw e refl in
        ap (λ (n : ℕ). numbers_from (links ++ link ∷ []) n) here ∙ numbers_from-kept links link (head_of old other) (linked other)

pub ArePlacesOf-none : (types : List CheckedType) (places : RowPlaces) → places.links.items ≡ [] → ArePlacesOf [] types places
ArePlacesOf-none types places none id = rw none (ap (λ (numbers : List ℕ). map (row_in types (id % 2 ^ 16)) numbers) (nothing (head_of places.heads id)))
  where
    nothing : (next : ℕ) → numbers_from [] next ≡ []
    nothing zero = numbers_from-none []
    nothing (suc index) = let more : index + 1 ≡ suc index = omega arith in subst (λ (n : ℕ). numbers_from [] n ≡ []) more (numbers_from-past [] index (omega arith))
