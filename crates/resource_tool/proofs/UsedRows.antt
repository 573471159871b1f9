-- How rows are counted beside what becomes of them.
use Rattle.std.proofs.Common.{◌≡◌, ℕ, zero, suc, ◌+◌, ◌<◌, ◌≤◌, arith, Bool, false, ltb, List, [], ◌∷◌, ◌++◌, Option, Some, None, append_assoc, drop, fold, get_or, length, map, option_map, slice_get, take, refl, sym, ap, ◌∙◌}
use Rattle.std.specs.List.{enumerate_from, flat_map, zip}
use Rattle.std.specs.Option.{is_some, option_and_then}
use Rattle.std.proofs.lemmas.Bool.{ltb-false}
use Rattle.std.proofs.lemmas.List.{append-nil, length-map, map_more}
use Rattle.std.proofs.lemmas.List.Sums.{fold-append}
use Rattle.std.proofs.lemmas.List.{drop_more, drop_all}
use Rattle.answer_text.specs.overlay_map.IdMap.{MapOf}
use Rattle.answer_text.specs.overlay_map.Layer.{LayerOf, by_itself}
use Rattle.answer_text.specs.type_chunks.Row.{RowOf}
use Rattle.stack_diff.specs.declared.row_use.RowUse.{RowUse}
use Rattle.resource_tool.specs.declared.unused_rows.Totals.{Totals}
use Rattle.resource_tool.specs.UnusedOutput.{UsedRow, Uses, is_overlay, used_rows, with_row}
use Rattle.resource_tool.specs.UnusedTotals.{IsWithin}

pub within-more : (most more : ℕ) (totals : Totals) → most ≤ more → IsWithin most totals → IsWithin more totals
within-more most more totals le within = record {
  loaded = omega (arith, le, within.loaded);
  overlaid = omega (arith, le, within.overlaid);
  unused = omega (arith, le, within.unused);
  unmapped = omega (arith, le, within.unmapped);
  bytes = omega (arith, le, within.bytes);
}

-- ---- rows, of which so many have gone

abbrev pub left_used : List RowOf → Uses → ℕ → List UsedRow
left_used rows uses index = zip {K = RowOf} {X = Option RowUse} rows (drop index uses)

pub used-next : (rows left : List RowOf) (uses : Uses) (index : ℕ) (row : RowOf) (d : Option RowUse) → rows ≡ row ∷ left → index < length uses
    → left_used rows uses index ≡ (row, get_or uses index d) ∷ left_used left uses (index + 1)
used-next rows left uses index row d split on = rw (split, drop_more uses index d on) refl

pub counted-next : (totals more all : Totals) (rows left : List RowOf) (uses : Uses) (index : ℕ) (row : RowOf) (d : Option RowUse) → fold with_row totals (left_used rows uses index) ≡ all
    → rows ≡ row ∷ left → index < length uses → more ≡ with_row totals (row, get_or uses index d) → fold with_row more (left_used left uses (index + 1)) ≡ all
counted-next totals more all rows left uses index row d before split on counts =
    ap (λ (t : Totals). fold with_row t (left_used left uses (index + 1))) counts
    ∙ ap (λ (these : List UsedRow). fold with_row totals these) (sym (used-next rows left uses index row d split on)) ∙ before

pub zip-none : {A B : Type 0} (xs : List A) → zip {K = A} {X = B} xs [] ≡ []
zip-none [] = refl
zip-none (x ∷ xs) = refl

pub used-end : (rows : List RowOf) (uses : Uses) (index : ℕ) → length uses ≤ index → left_used rows uses index ≡ []
used-end rows uses index end = rw (drop_all index uses end) (zip-none rows)

-- ---- layers, of which so many have gone

abbrev UsedLayer : Type 0
UsedLayer = LayerOf × Uses

found-at : (stack : List LayerOf) (place : ℕ) (found : List LayerOf) → place < length (map by_itself stack) → found ≡ get_or (map by_itself stack) place found
    → (layer : LayerOf) × (drop place stack ≡ layer ∷ drop (suc place) stack) × (found ≡ by_itself layer) × (get_or (map is_overlay stack) place false ≡ is_overlay layer)
found-at [] place found on at = absurd (omega (arith, on))
found-at (layer ∷ layers) zero found on at = (layer, refl, at, refl)
found-at (layer ∷ layers) (suc place) found on at = found-at layers place found (omega (arith, on)) at

-- the layer that stands by itself at a place, and whether it is an overlay
pub found-layer : (stack : List LayerOf) (place : ℕ) (found : List LayerOf) → place < length (map by_itself stack) → found ≡ get_or (map by_itself stack) place found
    → (layer : LayerOf) × (drop place stack ≡ layer ∷ drop (place + 1) stack) × (found ≡ by_itself layer) × (get_or (map is_overlay stack) place false ≡ is_overlay layer)
found-layer stack place found on at =
    let it = found-at stack place found on at in
    let next : suc place ≡ place + 1 = omega arith in
    (it.0, it.1 ∙ ap (λ (n : ℕ). it.0 ∷ drop n stack) next, it.2, it.3)

-- or none stands there
pub layers-end : (stack : List LayerOf) (uses : List Uses) (place : ℕ) (apart : List (List LayerOf)) → apart ≡ map by_itself stack → false ≡ ltb place (length apart)
    → zip {K = LayerOf} {X = Uses} (drop place stack) uses ≡ []
layers-end stack uses place apart is past =
    let count = ap length is ∙ length-map stack by_itself in
    let few = ltb-false place (length apart) (sym past) in
    ap (λ (layers : List LayerOf). zip {K = LayerOf} {X = Uses} layers uses) (drop_all place stack (omega (arith, count, few)))

-- which of the layers are overlays

layer-at : (stack : List LayerOf) (place : ℕ) → place < length stack → (layer : LayerOf) × (slice_get stack place ≡ Some layer) × (get_or stack place layer ≡ layer)
layer-at [] place on = absurd (omega (arith, on))
layer-at (layer ∷ layers) zero on = (layer, refl, refl)
layer-at (layer ∷ layers) (suc place) on = layer-at layers place (omega (arith, on))

some-mapped : {A B : Type 0} (f : A → B) (one : Option A) → is_some one ≡ is_some (option_map f one)
some-mapped f None = refl
some-mapped f (Some x) = refl

pub overlays-next : {M : Type 0} (now : M → MapOf) (stack : List LayerOf) (place : ℕ) (found : Option M) (old new : List Bool) → place < length stack
    → option_map now found ≡ option_and_then (λ (layer : LayerOf). layer.map) (slice_get stack place) → old ≡ map is_overlay (take place stack) → new ≡ old ++ is_some found ∷ []
    → new ≡ map is_overlay (take (place + 1) stack)
overlays-next now stack place found old new on there before put =
    let it = layer-at stack place on in
    let map_is = there ∙ ap (option_and_then (λ (layer : LayerOf). layer.map)) it.1 in
    let told = some-mapped now found ∙ ap (λ (o : Option MapOf). is_some o) map_is ∙ sym (ap is_overlay it.2) in
    put ∙ ap (λ (bs : List Bool). bs ++ is_some found ∷ []) before ∙ ap (λ (b : Bool). map is_overlay (take place stack) ++ b ∷ []) told
    ∙ sym (map_more is_overlay stack place it.0 on)

pub seen-next : {X Y : Type 0} (view : X → Y) (xs : List X) (place : ℕ) (x : X) → place < length xs → x ≡ get_or xs place x
    → map view (drop place xs) ≡ view x ∷ map view (drop (place + 1) xs)
seen-next {X} {Y} view xs place x on here = ap (λ (these : List X). map view these) (drop_more xs place x on ∙ ap (λ (y : X). y ∷ drop (place + 1) xs) (sym here))

pub both-next : (layers others : List LayerOf) (uses more : List Uses) (layer : LayerOf) (of_layer : Uses) → layers ≡ layer ∷ others → uses ≡ of_layer ∷ more
    → zip {K = LayerOf} {X = Uses} layers uses ≡ (layer, of_layer) ∷ zip {K = LayerOf} {X = Uses} others more
both-next layers others uses more layer of_layer first second = rw (first, second) refl

pub text-next : (lines : ℕ × UsedLayer → List ℕ) (old new all : List ℕ) (place : ℕ) (left others : List UsedLayer) (used : UsedLayer) → old ++ flat_map lines (enumerate_from place left) ≡ all
    → new ≡ old ++ lines (place, used) → left ≡ used ∷ others → new ++ flat_map lines (enumerate_from (place + 1) others) ≡ all
text-next lines old new all place left others used before pushed split =
    ap (λ (text : List ℕ). text ++ flat_map lines (enumerate_from (place + 1) others)) pushed
    ∙ append_assoc old (lines (place, used)) (flat_map lines (enumerate_from (place + 1) others))
    ∙ ap (λ (these : List UsedLayer). old ++ flat_map lines (enumerate_from place these)) (sym split) ∙ before

pub layer-counted : (totals more all : Totals) (left others : List UsedLayer) (used : UsedLayer) → fold with_row totals (flat_map used_rows left) ≡ all
    → more ≡ fold with_row totals (used_rows used) → left ≡ used ∷ others → fold with_row more (flat_map used_rows others) ≡ all
layer-counted totals more all left others used before counts split =
    ap (λ (t : Totals). fold with_row t (flat_map used_rows others)) counts
    ∙ sym (fold-append with_row totals (used_rows used) (flat_map used_rows others))
    ∙ ap (λ (these : List UsedLayer). fold with_row totals (flat_map used_rows these)) (sym split) ∙ before

pub text-end : (lines : ℕ × UsedLayer → List ℕ) (text all : List ℕ) (place : ℕ) (left : List UsedLayer) → left ≡ [] → text ++ flat_map lines (enumerate_from place left) ≡ all → text ≡ all
text-end lines text all place left none before =
    sym (append-nil text) ∙ ap (λ (these : List UsedLayer). text ++ flat_map lines (enumerate_from place these)) (sym none) ∙ before

pub layers-counted : (totals all : Totals) (left : List UsedLayer) → left ≡ [] → fold with_row totals (flat_map used_rows left) ≡ all → totals ≡ all
layers-counted totals all left none before = ap (λ (these : List UsedLayer). fold with_row totals (flat_map used_rows these)) (sym none) ∙ before
