-- Rows that are set aside: they have a script or a variant, and by language and region match no device.
use Rattle.std.specs.Prelude.{ℕ, List, map, sum}
use Rattle.type_chunks.specs.Row.{set_aside_count}
use Rattle.overlay_map.specs.Table.{rows_of}
use Rattle.overlay_map.specs.Layer.{LayerOf}

-- how many rows of a layer's table are
abbrev pub set_aside_in_layer : LayerOf → ℕ
set_aside_in_layer layer = set_aside_count (rows_of layer.table)

-- how many rows of all layers are
unfoldable pub set_aside_in_stack : List LayerOf → ℕ
set_aside_in_stack stack = sum (map set_aside_in_layer stack)
