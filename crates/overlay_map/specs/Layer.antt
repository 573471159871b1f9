-- Layers of a stack, the later over the earlier.
use Rattle.std.specs.Prelude.{ℕ, ◌<◌, ◌^◌, Bool, List, [], ◌∷◌, filter, length, map, Option, Some, None, is_none}
use Rattle.type_chunks.specs.Row.{RowOf, with_id}
use Rattle.overlay_map.specs.Table.{TableOf, rows_of}
use Rattle.overlay_map.specs.IdMap.{MapOf, look_of}

-- A layer, by its content, not its address: a table, as a base or as an overlay with its id map.
pub record LayerOf : Type 0 where
  pub table : TableOf
  -- none at a base
  pub map : Option MapOf

-- a stack has no more layers than these
abbrev pub most_layers : ℕ
most_layers = 64

abbrev pub is_base : LayerOf → Bool
is_base layer = is_none layer.map

-- the table of a layer as the only layer of a stack, a base
abbrev pub by_itself : LayerOf → List LayerOf
by_itself layer = record { table = layer.table; map = None } ∷ []

-- the tables of the base layers, the lowest first
abbrev pub base_tables : List LayerOf → List TableOf
base_tables layers = map (λ layer. layer.table) (filter is_base layers)

abbrev id_by : Option MapOf → ℕ → Option ℕ
id_by None id = Some id
id_by (Some map) id = look_of map id

-- The id under which a layer has the rows that stand for this one: the same in a base, that of the map in
-- an overlay.
abbrev pub own_id : LayerOf → ℕ → Option ℕ
own_id layer id = id_by layer.map id

abbrev pub rows_with : TableOf → Option ℕ → List RowOf
rows_with table None = []
rows_with table (Some id) = with_id id (rows_of table)

-- the rows of a layer that stand for an id, in the order of the file
abbrev pub rows_for : LayerOf → ℕ → List RowOf
rows_for layer id = rows_with layer.table (own_id layer id)

-- it has fewer rows than a number of 92 bits counts
abbrev pub HasFewRows : LayerOf → Type 0
HasFewRows layer = length (rows_of layer.table) < 2 ^ 92
