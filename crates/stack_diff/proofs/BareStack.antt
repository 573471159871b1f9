-- Stacks where overlays do nothing.
use Rattle.std.proofs.Common.{◌≡◌, ℕ, ◌+◌, Bool, true, false, List, [], ◌∷◌, ◌++◌, append_assoc, map, Option, Some, None, inl, inr, arith, refl, sym, ap, ◌∙◌}
use Rattle.std.specs.Prelude.{filter, ◌==◌, is_some, if◌then◌else◌, Contains}
use Rattle.std.specs.List.{list_any}
use Rattle.std.proofs.lemmas.Bool.{or_parts}
use Rattle.std.proofs.lemmas.List.Elements.{Contains-append_cases, Contains-append_left, Contains-append_right}
use Rattle.reference_resolver.specs.type_chunks.Row.{RowOf, with_id}
use Rattle.reference_resolver.specs.overlay_map.Table.{TableOf, rows_of}
use Rattle.reference_resolver.specs.overlay_map.IdMap.{MapOf, look_of}
use Rattle.reference_resolver.specs.overlay_map.Layer.{LayerOf, rows_for, rows_with}
use Rattle.reference_resolver.specs.overlay_map.Candidates.{CandOf, candidates_at, candidates_from, candidates_of}
use Rattle.stack_diff.specs.declared.row_place.RowPlace.{RowPlace}
use Rattle.stack_diff.specs.declared.look_up.Among.{Among}
use Rattle.stack_diff.specs.declared.look_up.Among.TheVariants.{AllLayers, BasesAlone}
use Rattle.stack_diff.specs.RowPlaces.{StandsFor, places_with_id, places_by, places_for, row_places_at, row_places_from, row_places}
use Rattle.stack_diff.specs.Loading.{loaded_among, loaded_row, without_overlay, without_overlays}
use Rattle.stack_diff.specs.LayersSeen.{layer_among, stack_among, is_kept}

filter-append : (p : CandOf → Bool) (cs ds : List CandOf) → filter p (cs ++ ds) ≡ filter p cs ++ filter p ds
filter-append p [] ds = refl
filter-append p (c ∷ cs) ds = by (p c) (filter-append p cs ds)
  where
    by : (b : Bool) → filter p (cs ++ ds) ≡ filter p cs ++ filter p ds → (if b then c ∷ filter p (cs ++ ds) else filter p (cs ++ ds)) ≡ (if b then c ∷ filter p cs else filter p cs) ++ filter p ds
    by true e = ap (λ (xs : List CandOf). c ∷ xs) e
    by false e = e

all-kept : (cs : List CandOf) → filter (is_kept AllLayers) cs ≡ cs
all-kept [] = refl
all-kept (c ∷ cs) = ap (λ (xs : List CandOf). c ∷ xs) (all-kept cs)

bases-kept : (index : ℕ) (rows : List RowOf) → filter (is_kept BasesAlone) (candidates_at index false rows) ≡ candidates_at index false rows
bases-kept index [] = refl
bases-kept index (row ∷ rows) = ap (λ (xs : List CandOf). record { layer = index; overlay = false; row = row } ∷ xs) (bases-kept index rows)

overlays-left : (index : ℕ) (rows : List RowOf) → filter (is_kept BasesAlone) (candidates_at index true rows) ≡ []
overlays-left index [] = refl
overlays-left index (row ∷ rows) = overlays-left index rows

same-layers : (layers : List LayerOf) → map (layer_among AllLayers) layers ≡ layers
same-layers [] = refl
same-layers (layer ∷ layers) = ap (λ (ls : List LayerOf). layer ∷ ls) (same-layers layers)

pub all-layers : (stack : List LayerOf) → stack_among AllLayers stack ≡ stack
all-layers stack = same-layers stack

kept-from : (index : ℕ) (layers : List LayerOf) (id : ℕ) → filter (is_kept BasesAlone) (candidates_from index layers id) ≡ candidates_from index (map without_overlay layers) id
unfolding look_of
kept-from index [] id = refl
kept-from index (layer ∷ layers) id =
    filter-append (is_kept BasesAlone) (candidates_at index (is_some layer.map) (rows_for layer id)) (candidates_from (index + 1) layers id)
    ∙ by layer.table layer.map (kept-from (index + 1) layers id)
  where
    by : (table : TableOf) (m : Option MapOf) → filter (is_kept BasesAlone) (candidates_from (index + 1) layers id) ≡ candidates_from (index + 1) (map without_overlay layers) id
        → filter (is_kept BasesAlone) (candidates_at index (is_some m) (rows_for (record { table = table; map = m }) id)) ++ filter (is_kept BasesAlone) (candidates_from (index + 1) layers id)
        ≡ candidates_from index (without_overlay (record { table = table; map = m }) ∷ map without_overlay layers) id
    by table None e =
        ap (λ (first : List CandOf). first ++ filter (is_kept BasesAlone) (candidates_from (index + 1) layers id)) (bases-kept index (with_id id (rows_of table)))
        ∙ ap (λ (rest : List CandOf). candidates_at index false (with_id id (rows_of table)) ++ rest) e
    by table (Some m) e =
        ap (λ (first : List CandOf). first ++ filter (is_kept BasesAlone) (candidates_from (index + 1) layers id)) (overlays-left index (rows_for (record { table = table; map = Some m }) id))
        ∙ e

pub kept-candidates : (among : Among) (stack : List LayerOf) (id : ℕ) → filter (is_kept among) (candidates_of stack id) ≡ candidates_of (stack_among among stack) id
unfolding candidates_of
kept-candidates AllLayers stack id = all-kept (candidates_from 0 stack id) ∙ ap (λ (layers : List LayerOf). candidates_from 0 layers id) (sym (same-layers stack))
kept-candidates BasesAlone stack id = kept-from 0 stack id

-- ---- what stands for an id without overlays stands for it

pub bare-stands : (stack : List LayerOf) (id : ℕ) (row : RowPlace) → StandsFor (without_overlays stack) row id → StandsFor stack row id
unfolding row_places look_of
bare-stands stack id row has = from 0 stack has
  where
    from : (index : ℕ) (layers : List LayerOf) → Contains (row_places_from index (map without_overlay layers) id) row → Contains (row_places_from index layers id) row
    from index [] has = has
    from index (layer ∷ layers) has =
        elim (Contains-append_cases (row_places_at index (places_for (without_overlay layer) id)) (row_places_from (index + 1) (map without_overlay layers) id) row has) [
          | inl here ↦ Contains-append_left (row_places_at index (places_for layer id)) (row_places_from (index + 1) layers id) row (by layer.table layer.map here)
          | inr later ↦ Contains-append_right (row_places_at index (places_for layer id)) (row_places_from (index + 1) layers id) row (from (index + 1) layers later)
        ]
      where
        by : (table : TableOf) (m : Option MapOf) → Contains (row_places_at index (places_for (without_overlay (record { table = table; map = m })) id)) row → Contains (row_places_at index (places_for (record { table = table; map = m }) id)) row
        by table None here = here
        by table (Some m) here = absurd (let within = here.1 in omega (arith, within))

-- ---- where no candidate is of an overlay

pub true-not-false : true ≡ false → ⊥
true-not-false e = absurd cc

abbrev pub is-of-overlay : CandOf → Bool
is-of-overlay c = c.overlay

no-candidates : (index : ℕ) (rows : List RowOf) (others : List CandOf) → list_any is-of-overlay (candidates_at index true rows ++ others) ≡ false → rows ≡ []
no-candidates index [] others plain = refl
no-candidates index (row ∷ rows) others plain = absurd (true-not-false plain)

no-places : (id from : ℕ) (rows : List RowOf) → with_id id rows ≡ [] → places_with_id id from rows ≡ []
no-places id from [] none = refl
no-places id from (row ∷ rows) none = by (row.id == id) (no-places id (from + 1) rows) none
  where
    by : (b : Bool) → (with_id id rows ≡ [] → places_with_id id (from + 1) rows ≡ []) → (if b then row ∷ with_id id rows else with_id id rows) ≡ [] → (if b then from ∷ places_with_id id (from + 1) rows else places_with_id id (from + 1) rows) ≡ []
    by true others none = absurd cc
    by false others none = others none

places-none : (table : TableOf) (own : Option ℕ) → rows_with table own ≡ [] → places_by table own ≡ []
places-none table None none = refl
places-none table (Some id) none = no-places id 0 (rows_of table) none

any-right : (xs ys : List CandOf) → list_any is-of-overlay (xs ++ ys) ≡ false → list_any is-of-overlay ys ≡ false
any-right [] ys plain = plain
any-right (x ∷ xs) ys plain = any-right xs ys (or_parts x.overlay (list_any is-of-overlay (xs ++ ys)) plain).1

record SameFrom (index : ℕ) (layers : List LayerOf) (id : ℕ) : Type 0 where
  pub candidates : candidates_from index (map without_overlay layers) id ≡ candidates_from index layers id
  pub places : row_places_from index (map without_overlay layers) id ≡ row_places_from index layers id

same-from : (index : ℕ) (layers : List LayerOf) (id : ℕ) → list_any is-of-overlay (candidates_from index layers id) ≡ false → SameFrom index layers id
unfolding look_of
same-from index [] id plain = record { candidates = refl; places = refl }
same-from index (layer ∷ layers) id plain =
    by layer.table layer.map (same-from (index + 1) layers id (any-right (candidates_at index (is_some layer.map) (rows_for layer id)) (candidates_from (index + 1) layers id) plain)) plain
  where
    by : (table : TableOf) (m : Option MapOf) → SameFrom (index + 1) layers id → list_any is-of-overlay (candidates_from index (record { table = table; map = m } ∷ layers) id) ≡ false
        → SameFrom index (record { table = table; map = m } ∷ layers) id
    by table None others plain = record {
      candidates = ap (λ (more : List CandOf). candidates_at index false (with_id id (rows_of table)) ++ more) others.candidates;
      places = ap (λ (more : List RowPlace). row_places_at index (places_with_id id 0 (rows_of table)) ++ more) others.places;
    }
    by table (Some m) others plain =
        let own = look_of m id in
        let none = no-candidates index (rows_with table own) (candidates_from (index + 1) layers id) plain in
        record {
          candidates = others.candidates ∙ sym (ap (λ (rows : List RowOf). candidates_at index true rows ++ candidates_from (index + 1) layers id) none);
          places = others.places ∙ sym (ap (λ (places : List ℕ). row_places_at index places ++ row_places_from (index + 1) layers id) (places-none table own none));
        }

pub same-look-up : (stack : List LayerOf) (id : ℕ) → list_any is-of-overlay (candidates_of stack id) ≡ false → (d : List ℕ) → loaded_row (without_overlays stack) id d ≡ loaded_row stack id d
unfolding candidates_of row_places loaded_row
same-look-up stack id plain d =
    let same = same-from 0 stack id plain in
    ap (λ (cs : List CandOf). loaded_among cs (row_places_from 0 (map without_overlay stack) id) d) same.candidates
    ∙ ap (λ (rows : List RowPlace). loaded_among (candidates_from 0 stack id) rows d) same.places

-- ---- candidate by candidate

pub keep-one : (p : CandOf → Bool) (old new : List CandOf) (first : CandOf) (left rest all : List CandOf) → left ≡ first ∷ rest → p first ≡ true → new ≡ old ++ first ∷ [] → old ++ filter p left ≡ all → new ++ filter p rest ≡ all
keep-one p old new first left rest all split holds pushed before =
    ap (λ (xs : List CandOf). xs ++ filter p rest) pushed ∙ append_assoc old (first ∷ []) (filter p rest)
    ∙ ap (λ (b : Bool). old ++ (if b then first ∷ filter p rest else filter p rest)) (sym holds)
    ∙ ap (λ (xs : List CandOf). old ++ filter p xs) (sym split) ∙ before

pub leave-one : (p : CandOf → Bool) (old : List CandOf) (first : CandOf) (left rest all : List CandOf) → left ≡ first ∷ rest → p first ≡ false → old ++ filter p left ≡ all → old ++ filter p rest ≡ all
leave-one p old first left rest all split fails before =
    ap (λ (b : Bool). old ++ (if b then first ∷ filter p rest else filter p rest)) (sym fails)
    ∙ ap (λ (xs : List CandOf). old ++ filter p xs) (sym split) ∙ before
