-- The candidates of an id: the rows that may stand for it, layer by layer.
use Rattle.std.specs.Prelude.{ℕ, ◌+◌, Bool, List, [], ◌∷◌, ◌++◌, map, is_some}
use Rattle.type_chunks.specs.Row.{RowOf, row_of}
use Rattle.overlay_map.specs.declared.candidate.Cand.{Cand}
use Rattle.overlay_map.specs.Layer.{LayerOf, rows_for}

-- A candidate, by its content, not its address.
pub record CandOf : Type 0 where
  -- the index of its layer, from 0
  pub layer : ℕ
  -- whether that layer is an overlay
  pub overlay : Bool
  pub row : RowOf

abbrev pub cand_of : Cand → CandOf
cand_of candidate = record { layer = candidate.layer; overlay = candidate.overlay; row = row_of candidate.row }

-- these rows as candidates of the layer of this index
abbrev pub candidates_at : ℕ → Bool → List RowOf → List CandOf
candidates_at index overlay rows = map (λ row. record { layer = index; overlay = overlay; row = row }) rows

-- layer by layer; the first of these has this index
abbrev pub candidates_from : ℕ → List LayerOf → ℕ → List CandOf
candidates_from index [] id = []
candidates_from index (layer ∷ layers) id = candidates_at index (is_some layer.map) (rows_for layer id) ++ candidates_from (index + 1) layers id

-- those of a whole stack
unfoldable pub candidates_of : List LayerOf → ℕ → List CandOf
candidates_of stack id = candidates_from 0 stack id
