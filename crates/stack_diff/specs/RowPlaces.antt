-- Where the rows stand that may stand for an id.
use Rattle.std.specs.Prelude.{ℕ, ◌+◌, ◌==◌, List, [], ◌∷◌, ◌++◌, map, Option, Some, None, Contains, if◌then◌else◌}
use Rattle.reference_resolver.specs.type_chunks.Row.{RowOf}
use Rattle.reference_resolver.specs.overlay_map.Table.{TableOf, rows_of}
use Rattle.reference_resolver.specs.overlay_map.Layer.{LayerOf, own_id}
use Rattle.stack_diff.specs.declared.row_place.RowPlace.{RowPlace}

-- the places of the rows of an id among rows, of which the first stands at this place
abbrev pub places_with_id : ℕ → ℕ → List RowOf → List ℕ
places_with_id id from [] = []
places_with_id id from (row ∷ rows) =
    if row.id == id then from ∷ places_with_id id (from + 1) rows else places_with_id id (from + 1) rows

abbrev pub places_by : TableOf → Option ℕ → List ℕ
places_by table None = []
places_by table (Some id) = places_with_id id 0 (rows_of table)

-- in the table of a layer, the places of the rows that stand for an id
abbrev pub places_for : LayerOf → ℕ → List ℕ
places_for layer id = places_by layer.table (own_id layer id)

-- these places in the layer of an index
abbrev pub row_places_at : ℕ → List ℕ → List RowPlace
row_places_at index places = map (λ place. record { layer = index; place = place }) places

-- layer by layer; the first of these has this index
abbrev pub row_places_from : ℕ → List LayerOf → ℕ → List RowPlace
row_places_from index [] id = []
row_places_from index (layer ∷ layers) id = row_places_at index (places_for layer id) ++ row_places_from (index + 1) layers id

-- The places of the candidates of an id, in their order.
unfoldable pub row_places : List LayerOf → ℕ → List RowPlace
row_places stack id = row_places_from 0 stack id

-- a row may stand for an id
abbrev pub StandsFor : List LayerOf → RowPlace → ℕ → Type 0
StandsFor stack row id = Contains (row_places stack id) row
