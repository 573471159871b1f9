-- The layers of a stack, one after the other, and the ids of their rows.
use Rattle.std.proofs.Common.{◌≡◌, ◌≢◌, ◌⊎◌, inl, inr, ℕ, zero, suc, ◌+◌, ◌<◌, ◌==◌, Bool, true, false, List, [], ◌∷◌, ◌++◌, append_assoc, length, take, drop, get_or, map, Option, Some, None, arith, refl, sym, ap, ◌∙◌, subst}
use Rattle.std.specs.Prelude.{slice_get, option_and_then, IsTrue, ◌||◌, if◌then◌else◌, cond, nat_lt, Contains}
use Rattle.std.specs.Option.{option_map}
use Rattle.std.specs.BTreeSet.{BTreeSet, contains}
use Rattle.std.specs.Ordering.{nat_cmp, is_eq}
use Rattle.std.specs.declared.cmp.Ordering.TheVariants.{Less, Equal, Greater}
use Rattle.std.specs.BTreeMap.{is_at}
use Rattle.std.proofs.lemmas.Cmp.{nat_cmp_total}
use Rattle.std.proofs.lemmas.Map.Lookups.{exact_unsigned}
use Rattle.std.proofs.lemmas.Map.Views.{btree_set_contains_iff, exact_unsigned_eq}
use Rattle.std.proofs.lemmas.Bool.{le-ltb, eq-eqb, eqb-true}
use Rattle.std.proofs.lemmas.List.{map-append, drop_more}
use Rattle.reference_resolver.specs.res_value.declared.res_id.ResId.{ResId}
use Rattle.reference_resolver.specs.overlay_map.Table.{TableOf}
use Rattle.reference_resolver.specs.type_chunks.Row.{RowOf}
use Rattle.reference_resolver.specs.overlay_map.IdMap.{MapOf, look_of, targets_in}
use Rattle.reference_resolver.specs.overlay_map.Layer.{LayerOf}
use Rattle.stack_diff.specs.declared.layer_rows.LayerRows.{LayerRows}
use Rattle.stack_diff.specs.declared.look_up.Among.{Among}
use Rattle.stack_diff.specs.declared.row_place.RowPlace.{RowPlace}
use Rattle.stack_diff.specs.PlacesSeen.{is_among, id_of}
use Rattle.stack_diff.specs.RowPlaces.{places_by, places_for, places_with_id, row_places_at, row_places_from}
use Rattle.stack_diff.specs.LayersSeen.{layer_among, layer_of, layers_of, stack_among}

-- ---- layers

next-of : (stack : List LayerOf) (k : ℕ) (table : TableOf) (map_of : Option MapOf) → Some table ≡ option_map (λ (layer : LayerOf). layer.table) (slice_get stack k)
    → map_of ≡ option_and_then (λ (layer : LayerOf). layer.map) (slice_get stack k) → take (k + 1) stack ≡ take k stack ++ record { table = table; map = map_of } ∷ []
next-of [] k table map_of is_table is_map = absurd cc
next-of (layer ∷ stack) zero table map_of is_table is_map =
    let tables : table ≡ layer.table = cc in
    let with_table : TableOf → LayerOf = λ t. record { table = t; map = map_of } in
    let with_map : Option MapOf → LayerOf = λ m. record { table = layer.table; map = m } in
    ap (λ (l : LayerOf). l ∷ []) (sym (ap with_table tables ∙ ap with_map is_map))
next-of (layer ∷ stack) (suc k) table map_of is_table is_map =
    ap (λ (n : ℕ). take n (layer ∷ stack)) (let e : suc k + 1 ≡ suc (k + 1) = omega arith in e) ∙ ap (λ (ls : List LayerOf). layer ∷ ls) (next-of stack k table map_of is_table is_map)

pub next-layer : (stack : List LayerOf) (k : ℕ) (old new : List LayerRows) (layer : LayerRows) → new ≡ old ++ layer ∷ [] → layers_of old ≡ take k stack
    → Some (layer_of layer).table ≡ option_map (λ (l : LayerOf). l.table) (slice_get stack k) → (layer_of layer).map ≡ option_and_then (λ (l : LayerOf). l.map) (slice_get stack k)
    → layers_of new ≡ take (k + 1) stack
next-layer stack k old new layer pushed before is_table is_map =
    ap layers_of pushed ∙ map-append layer_of old (layer ∷ []) ∙ ap (λ (ls : List LayerOf). ls ++ layer_of layer ∷ []) before
    ∙ sym (next-of stack k (layer_of layer).table (layer_of layer).map is_table is_map)

-- each layer has a table
pub layer-there : (stack : List LayerOf) (k : ℕ) → k < length stack → None ≡ option_map (λ (layer : LayerOf). layer.table) (slice_get stack k) → ⊥
layer-there [] k within none = absurd (omega (arith, within))
layer-there (layer ∷ stack) zero within none = cc
layer-there (layer ∷ stack) (suc k) within none = layer-there stack k (omega (arith, within)) none

-- the rows of one layer more
pub rows-next : (among : Among) (layers : List LayerRows) (index : ℕ) (layer : LayerRows) (id : ℕ) (old more all : List RowPlace) → index < length layers → layer ≡ get_or layers index layer
    → old ++ row_places_from index (stack_among among (layers_of (drop index layers))) id ≡ all → more ≡ old ++ row_places_at index (places_for (layer_among among (layer_of layer)) id)
    → more ++ row_places_from (index + 1) (stack_among among (layers_of (drop (index + 1) layers))) id ≡ all
rows-next among layers index layer id old more all on is before put =
    let left = drop (index + 1) layers in
    let others = row_places_from (index + 1) (stack_among among (layers_of left)) id in
    let here = row_places_at index (places_for (layer_among among (layer_of layer)) id) in
    ap (λ (rows : List RowPlace). rows ++ others) put
    ∙ append_assoc old here others
    ∙ ap (λ (ls : List LayerRows). old ++ row_places_from index (stack_among among (layers_of ls)) id) (sym (drop_more layers index layer on ∙ ap (λ (l : LayerRows). l ∷ left) (sym is)))
    ∙ before

-- the places of an id after one row more
pub places-next : (id n m : ℕ) (row : RowOf) (left others : List RowOf) (at_row at_id now all : List ℕ) → left ≡ row ∷ others → m ≡ n + 1 → now ≡ (if row.id == id then at_row ++ n ∷ [] else at_id) → (row.id ≡ id → at_row ≡ at_id)
    → at_id ++ places_with_id id n left ≡ all → now ++ places_with_id id m others ≡ all
places-next id n m row left others at_row at_id now all split more put same before =
    let behind = places_with_id id (n + 1) others in
    ap (λ (k : ℕ). now ++ places_with_id id k others) more
    ∙ ap (λ (places : List ℕ). places ++ behind) put
    ∙ by (row.id == id) refl
    ∙ ap (λ (rows : List RowOf). at_id ++ places_with_id id n rows) (sym split)
    ∙ before
  where
    by : (b : Bool) → (row.id == id) ≡ b → (if b then at_row ++ n ∷ [] else at_id) ++ places_with_id id (n + 1) others ≡ at_id ++ (if b then n ∷ places_with_id id (n + 1) others else places_with_id id (n + 1) others)
    by true e = append_assoc at_row (n ∷ []) (places_with_id id (n + 1) others) ∙ ap (λ (places : List ℕ). places ++ n ∷ places_with_id id (n + 1) others) (same (eqb-true row.id id e))
    by false e = refl

-- ---- ids

-- a target that a map knows is one of its targets
pub target-listed : (targets : List ResId) (m : MapOf) (id own : ℕ) → map (λ (target : ResId). target.0) targets ≡ targets_in m → look_of m id ≡ Some own → IsTrue (is_among targets id)
unfolding look_of
target-listed targets [] id own are at = absurd cc
target-listed [] (pair ∷ m) id own are at = absurd cc
target-listed (target ∷ targets) (pair ∷ m) id own are at =
    let first : target.0 ≡ pair.0 = cc in
    let rest : map (λ (t : ResId). t.0) targets ≡ targets_in m = cc in
    ap (λ (n : ℕ). (n == id) || is_among targets id) first ∙ by (pair.0 == id) (target-listed targets m id own rest) at
  where
    by : (b : Bool) → (look_of m id ≡ Some own → IsTrue (is_among targets id)) → (if b then Some pair.1 else look_of m id) ≡ Some own → (b || is_among targets id) ≡ true
    by true later at = refl
    by false later at = later at

-- rows stand for it in an overlay
pub target-of-places : (targets : List ResId) (table : TableOf) (m : MapOf) (id : ℕ) → map (λ (target : ResId). target.0) targets ≡ targets_in m → places_by table (look_of m id) ≢ [] → IsTrue (is_among targets id)
target-of-places targets table m id are some = by (look_of m id) refl some
  where
    by : (o : Option ℕ) → look_of m id ≡ o → places_by table o ≢ [] → IsTrue (is_among targets id)
    by None at some = absurd (some refl)
    by (Some own) at some = target-listed targets m id own are at

-- rows stand for an id in some layer, or in one of those that are left
pub in-layer : (index : ℕ) (layer : LayerOf) (layers : List LayerOf) (id : ℕ) → row_places_from index (layer ∷ layers) id ≢ [] → (places_for layer id ≢ []) ⊎ (row_places_from (index + 1) layers id ≢ [])
in-layer index layer layers id some = by (places_for layer id) some
  where
    by : (places : List ℕ) → row_places_at index places ++ row_places_from (index + 1) layers id ≢ [] → (places ≢ []) ⊎ (row_places_from (index + 1) layers id ≢ [])
    by [] some = inr some
    by (place ∷ places) some = inl (λ e. cc)

-- ---- a set of numbers

pub contained : (numbers : BTreeSet ℕ) (id : ℕ) → IsTrue (contains nat_cmp numbers id) → Contains numbers.keys id
contained numbers id has = (btree_set_contains_iff nat_cmp_total exact_unsigned numbers id).0 has

pub numbers-of-ids : (numbers : List ℕ) → map (λ (id : ResId). id.0) (map id_of numbers) ≡ numbers
numbers-of-ids [] = refl
numbers-of-ids (number ∷ numbers) = ap (λ (ns : List ℕ). number ∷ ns) (numbers-of-ids numbers)

equal-is-at : (a b : ℕ) → (a == b) ≡ true → is_at (nat_cmp a) b ≡ true
equal-is-at a b e = subst (λ (n : ℕ). is_at (nat_cmp a) n ≡ true) (exact_unsigned_eq a b e) (by (nat_lt a a) (a == a) (le-ltb a a (omega arith)) (eq-eqb a a refl))
  where
    by : (less same : Bool) → less ≡ false → same ≡ true → is_eq (cond less Less (cond same Equal Greater)) ≡ true
    by false true e f = refl
    by false false e f = f
    by true same e f = sym e

-- one number more
pub put-next : (numbers new : BTreeSet ℕ) (first : ResId) (left rest : List ResId) → left ≡ first ∷ rest → ((q : ℕ) → contains nat_cmp new q ≡ cond (is_at (nat_cmp first.0) q) true (contains nat_cmp numbers q))
    → (id : ℕ) → IsTrue (contains nat_cmp numbers id || is_among left id) → IsTrue (contains nat_cmp new id || is_among rest id)
put-next numbers new first left rest split updates id has =
    ap (λ (b : Bool). b || is_among rest id) (updates id)
    ∙ by (first.0 == id) refl (contains nat_cmp numbers id) (ap (λ (ids : List ResId). contains nat_cmp numbers id || is_among ids id) (sym split) ∙ has)
  where
    by : (b : Bool) → (first.0 == id) ≡ b → (old : Bool) → (old || (b || is_among rest id)) ≡ true → (cond (is_at (nat_cmp first.0) id) true old || is_among rest id) ≡ true
    by true e old has = ap (λ (b : Bool). cond b true old || is_among rest id) (equal-is-at first.0 id e)
    by false e true has = either (is_at (nat_cmp first.0) id)
      where
        either : (b : Bool) → (cond b true true || is_among rest id) ≡ true
        either true = refl
        either false = refl
    by false e false has = later (is_at (nat_cmp first.0) id) has
      where
        later : (b : Bool) → is_among rest id ≡ true → (cond b true false || is_among rest id) ≡ true
        later true has = refl
        later false has = has

-- no layer is left
pub has-all : {A : Type 0} (index : ℕ) (left : List LayerOf) (id : ℕ) → left ≡ [] → A ⊎ (row_places_from index left id ≢ []) → A
has-all index left id none (inl has) = has
has-all index left id none (inr some) = absurd (some (ap (λ (layers : List LayerOf). row_places_from index layers id) none))
