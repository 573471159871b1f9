-- How many candidates an id has at most.
use Rattle.std.proofs.Common.{◌≡◌, ◌==◌, ℕ, ◌+◌, ◌*◌, ◌^◌, ◌≤◌, ◌<◌, Bool, List, [], ◌∷◌, ◌++◌, length, is_some, Option, Some, None, All, sym, subst, ap, ◌∙◌, arith, length-append}
use Rattle.std.proofs.lemmas.List.{length-map}
use Rattle.std.proofs.lemmas.List.Sums.{length-filter, count_by-le-length}
use Rattle.std.proofs.lemmas.List.Elements.{All-head, All-tail, All-push}
use Rattle.type_chunks.specs.Row.{RowOf}
use Rattle.overlay_map.specs.Table.{rows_of}
use Rattle.overlay_map.specs.Layer.{LayerOf, most_layers, HasFewRows, own_id, rows_with, rows_for}
use Rattle.overlay_map.specs.Candidates.{candidates_at, candidates_from}

-- the candidates of a layer are some of its rows
length-rows_for : (layer : LayerOf) (id : ℕ) → HasFewRows layer → length (rows_for layer id) < 2 ^ 92
length-rows_for layer id few = at_id (own_id layer id)
  where
    at_id : (own : Option ℕ) → length (rows_with layer.table own) < 2 ^ 92
    at_id None = omega arith
    at_id (Some own) =
        let rows = rows_of layer.table in
        let has_own : RowOf → Bool = λ row. row.id == own in
        omega (arith, few, length-filter has_own rows, count_by-le-length has_own rows)

pub length-candidates_from : (place : ℕ) (layers : List LayerOf) (id : ℕ) → All HasFewRows layers → length (candidates_from place layers id) ≤ length layers * 2 ^ 92
length-candidates_from place [] id few = omega arith
length-candidates_from place (layer ∷ layers) id few =
    let first = candidates_at place (is_some layer.map) (rows_for layer id) in
    let counted : length first ≡ length (rows_for layer id) = length-map _ _ in
    omega (
      arith,
      length-append first (candidates_from (place + 1) layers id),
      counted,
      length-rows_for layer id (All-head HasFewRows layer layers few),
      length-candidates_from (place + 1) layers id (All-tail HasFewRows layer layers few),
    )

few-push : (old new : List LayerOf) (layer : LayerOf) → new ≡ old ++ layer ∷ [] → All HasFewRows old → HasFewRows layer → All HasFewRows new
few-push old new layer pushed before few = subst (λ (layers : List LayerOf). All HasFewRows layers) (sym pushed) (All-push HasFewRows old layer before few)

length-push : (old new : List LayerOf) (layer : LayerOf) → new ≡ old ++ layer ∷ [] → length new ≡ length old + 1
length-push old new layer pushed = ap (λ (layers : List LayerOf). length layers) pushed ∙ length-append old (layer ∷ [])

-- one layer more, with few rows, over fewer than may stand
pub few-layers : (old same new : List LayerOf) (layer : LayerOf) → same ≡ old → new ≡ same ++ layer ∷ [] → length old < most_layers → All HasFewRows old → HasFewRows layer
    → (length new ≤ most_layers) × (All HasFewRows new × Unit {0})
few-layers old same new layer unchanged pushed below before few =
    let over = subst (λ (layers : List LayerOf). new ≡ layers ++ layer ∷ []) unchanged pushed in
    (omega (arith, below, length-push old new layer over), (few-push old new layer over before few, tt))
