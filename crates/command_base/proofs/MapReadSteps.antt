-- A map that is made is read as that map when it is printed.
use Rattle.std.proofs.Common.{◌≡◌, ℕ, ◌+◌, ◌<◌, ◌≤◌, ◌==◌, false, List, [], ◌∷◌, map, Ok, refl, sym, ap, subst, ◌∙◌, arith}
use Rattle.std.specs.List.{All, list_any}
use Rattle.std.proofs.lemmas.Bool.{eq-eqb, ne_eqb}
use Rattle.std.proofs.lemmas.List.Elements.{All-cons, All-head, All-nil, All-tail}
use Rattle.std.proofs.lemmas.Simd.{map-map}
use Rattle.contract_words.specs.Sequences.{joined, joined_each, with_before, with_front}
use Rattle.serde_json.specs.Data.{array}
use Rattle.json_input.specs.Each.{each, list_items}
use Rattle.json_input.proofs.EachSteps.{each-ok}
use Rattle.command_base.specs.answer_text.res_value.ResId.{package_of}
use Rattle.command_base.specs.answer_text.overlay_map.Table.{TableOf, table_in}
use Rattle.command_base.specs.overlay_map.IdMap.{IdPair, MapOf, check_target, checked_pair, checked_pairs, map_in, pair_item, pairs_in, pairs_of, targets_of}
use Rattle.command_base.specs.ToolFault.{fault_of_layer_table}
use Rattle.command_base.specs.MapErr.{map_err}
use Rattle.command_base.specs.StackBytes.{table_of_layer}
use Rattle.command_base.specs.MadeMap.{made_map}
use Rattle.command_base.specs.MapText.{MadeMapReadsBack, ReadsBack, map_text}
use Rattle.command_base.specs.PairSeen.{IdsReadBack}
use Rattle.command_base.proofs.MapJson.{map_data, map_text-value, pair_data}
use Rattle.command_base.proofs.RisingSteps.{IsRisingFrom, IsTargetOf, made-rises}

-- ---- the shape

item-back : (pair : IdPair) → IdsReadBack pair → pair_item (pair_data (pair.0.0, pair.1.0)) ≡ Ok pair
item-back pair back = rw (back.0, back.1) refl

items-back : (pairs : List IdPair) → All IdsReadBack pairs → each pair_item (list_items (map_data (pairs_of pairs))) ≡ Ok pairs
unfolding each
items-back [] back = refl
items-back (pair ∷ pairs) back =
    each-ok pair_item (pair_data (pair.0.0, pair.1.0)) (list_items (map_data (pairs_of pairs))) pair (item-back pair (All-head IdsReadBack pair pairs back))
    ∙ ap (with_front (pair ∷ [])) (items-back pairs (All-tail IdsReadBack pair pairs back))

pairs-back : (pairs : List IdPair) → All IdsReadBack pairs → pairs_in (array (map_data (pairs_of pairs))) ≡ Ok pairs
unfolding pairs_in
pairs-back pairs back = items-back pairs back

-- ---- the pairs, one after the other

abbrev IsBelow : ℕ → IdPair → Type 0
IsBelow low other = other.0.0 < low

none_before : (low n : ℕ) (before : List IdPair) → All (IsBelow low) before → low ≤ n → list_any (λ other. n == other.0.0) before ≡ false
none_before low n [] below le = refl
none_before low n (other ∷ before) below le =
    let less = All-head (IsBelow low) other before below in
    rw (ne_eqb n other.0.0 (λ e. omega (arith, less))) (none_before low n before (All-tail (IsBelow low) other before below) le)

all_below : (low high : ℕ) (before : List IdPair) → low ≤ high → All (IsBelow low) before → All (IsBelow high) before
all_below low high [] le below = All-nil (IsBelow high)
all_below low high (other ∷ before) le below =
    let less = All-head (IsBelow low) other before below in
    All-cons (IsBelow high) other before (omega (arith, less)) (all_below low high before le (All-tail (IsBelow low) other before below))

abbrev IsOfPackage : ℕ → IdPair → Type 0
IsOfPackage package_id pair = package_of pair.0 ≡ package_id

pair-checked : (first_package low : ℕ) (before : List IdPair) (pair : IdPair) → All (IsBelow low) before → low ≤ pair.0.0 → IsOfPackage first_package pair
    → checked_pair first_package (before, pair) ≡ Ok (pair ∷ [])
unfolding checked_pair check_target
pair-checked first_package low before pair below le same = rw (none_before low pair.0.0 before below le, eq-eqb (package_of pair.0) first_package same) refl

checked-from : (first_package low : ℕ) (before pairs : List IdPair) → All (IsBelow low) before → IsRisingFrom low (targets_of pairs) → All (IsOfPackage first_package) pairs
    → joined_each (checked_pair first_package) (with_before before pairs) ≡ Ok pairs
unfolding joined_each joined with_before
checked-from first_package low before [] below rises same = refl
checked-from first_package low before (pair ∷ pairs) below rises same =
    let next = pair.0.0 + 1 in
    rw (pair-checked first_package low before pair below rises.0 (All-head (IsOfPackage first_package) pair pairs same))
    (ap (with_front (pair ∷ []))
    (checked-from first_package next (pair ∷ before) pairs
    (All-cons (IsBelow next) pair before (omega arith) (all_below low next before (omega (arith, rises.0)) below))
    rises.1 (All-tail (IsOfPackage first_package) pair pairs same)))

pairs-checked : (package_id : ℕ) (pairs : List IdPair) → IsRisingFrom 0 (targets_of pairs) → All (IsOfPackage package_id) pairs → checked_pairs pairs ≡ Ok pairs
unfolding checked_pairs
pairs-checked package_id [] rises same = refl
pairs-checked package_id (first ∷ pairs) rises same =
    rw (All-head (IsOfPackage package_id) first pairs same) (checked-from package_id 0 [] (first ∷ pairs) (All-nil (IsBelow 0)) rises same)

-- ---- the map

map-reads_back : (package_id : ℕ) (pairs : List IdPair) → IsRisingFrom 0 (targets_of pairs) → All (IsOfPackage package_id) pairs → All IdsReadBack pairs
    → map_in (map_text (pairs_of pairs)) ≡ Ok (pairs_of pairs)
map-reads_back package_id pairs rises same back =
    rw (map_text-value (pairs_of pairs), pairs-back pairs back, pairs-checked package_id pairs rises same) refl

all-seen : {A B : Type 0} (P : B → Type 0) (view : A → B) (xs : List A) → All P (map view xs) → All (λ x. P (view x)) xs
all-seen P view [] all = All-nil (λ x. P (view x))
all-seen P view (x ∷ xs) all =
    All-cons (λ y. P (view y)) x xs (All-head P (view x) (map view xs) all) (all-seen P view xs (All-tail P (view x) (map view xs) all))

pub made-reads_back : (target overlay : TableOf) (pairs : List IdPair) → pairs_of pairs ≡ made_map target overlay → All IdsReadBack pairs → ReadsBack (made_map target overlay)
made-reads_back target overlay pairs is back =
    let made = made-rises target overlay in
    let numbers : MapOf → List ℕ = λ seen. map (λ pair. pair.0) seen in
    subst ReadsBack is
    (map-reads_back made.0 pairs
    (subst (IsRisingFrom 0) (sym (ap numbers is) ∙ map-map (λ pair. pair.0) (λ pair. (pair.0.0, pair.1.0)) pairs) made.1)
    (all-seen (IsTargetOf made.0) (λ pair. (pair.0.0, pair.1.0)) pairs (subst (All (IsTargetOf made.0)) (sym is) made.2))
    back)

-- ---- the bytes

-- the table that was opened is the one that the bytes mean
opened-table : (layer : ℕ) (bytes : List ℕ) (opened table : TableOf) → table_of_layer layer bytes ≡ Ok opened → table_in bytes ≡ Ok table → opened ≡ table
opened-table layer bytes opened table is_opened is_table =
    let same : map_err (fault_of_layer_table layer) (Ok table) ≡ Ok opened = sym (ap (map_err (fault_of_layer_table layer)) is_table) ∙ is_opened in
    cc

pub opened-reads_back : (target_bytes overlay_bytes : List ℕ) (opened_target opened_overlay : TableOf) → table_of_layer 0 target_bytes ≡ Ok opened_target
    → table_of_layer 1 overlay_bytes ≡ Ok opened_overlay → ReadsBack (made_map opened_target opened_overlay) → MadeMapReadsBack target_bytes overlay_bytes
opened-reads_back target_bytes overlay_bytes opened_target opened_overlay at_target at_overlay back = λ target overlay is_target is_overlay.
    let target_same = opened-table 0 target_bytes opened_target target at_target is_target in
    let overlay_same = opened-table 1 overlay_bytes opened_overlay overlay at_overlay is_overlay in
    subst (λ (made : MapOf). ReadsBack made) (λ k. made_map (target_same k) (overlay_same k)) back
