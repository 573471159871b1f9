-- Stacks, read from the bytes of their layers.
use Rattle.std.specs.Prelude.{ℕ, ◌+◌, List, [], ◌∷◌, length, nat_lt, Option, Some, None, Result, Ok}
use Rattle.command_base.specs.contract_words.Faults.{◌>>=◌, refuse}
use Rattle.command_base.specs.contract_words.Sequences.{with_front}
use Rattle.command_base.specs.overlay_map.Table.{TableOf, table_in}
use Rattle.command_base.specs.overlay_map.IdMap.{MapOf, map_in}
use Rattle.command_base.specs.overlay_map.Layer.{LayerOf, most_layers}
use Rattle.command_base.specs.declared.layers_fault.LayersFault.TheVariants.{TooManyLayers}
use Rattle.command_base.specs.declared.fault.ToolFault.{ToolFault}
use Rattle.command_base.specs.declared.fault.ToolFault.TheVariants.{Layers}
use Rattle.command_base.specs.declared.side.Side.{Side}
use Rattle.command_base.specs.ToolFault.{fault_of_layer_table, fault_of_layer_map, fault_on_side}
use Rattle.command_base.specs.MapErr.{map_err}

-- the bytes of a layer: those of its table and, at an overlay, those of its id map
pub record LayerBytes : Type 0 where
  pub table : List ℕ
  -- none at a base
  pub map : Option (List ℕ)

-- the table of the layer at a place
abbrev pub table_of_layer : ℕ → List ℕ → Result TableOf ToolFault
table_of_layer place bytes = map_err (fault_of_layer_table place) (table_in bytes)

-- the id map of the layer at a place, where it has one
abbrev pub map_of_layer : ℕ → Option (List ℕ) → Result (Option MapOf) ToolFault
map_of_layer place None = Ok None
map_of_layer place (Some bytes) = map_err (fault_of_layer_map place) (map_in bytes) >>= λ map. Ok (Some map)

-- the layer at a place; its table is read before its map
unfoldable pub layer_in : ℕ → LayerBytes → Result LayerOf ToolFault
layer_in place bytes = do
  table ← table_of_layer place bytes.table
  map ← map_of_layer place bytes.map
  Ok (record { table = table; map = map })

-- these layers, where this many stand before them, or the first fault
unfoldable pub layers_from : ℕ → List LayerBytes → Result (List LayerOf) ToolFault
layers_from place [] = Ok []
layers_from place (bytes ∷ others) = do
  layer ← layer_in place bytes
  with_front (layer ∷ []) (layers_from (place + 1) others)

-- The stack of these layers, or the first fault. That there are no more than 64 comes before any layer.
unfoldable pub stack_in : List LayerBytes → Result (List LayerOf) ToolFault
stack_in layers = do
  _ ← refuse (nat_lt most_layers (length layers)) (Layers TooManyLayers)
  layers_from 0 layers

-- the same of one of two stacks that are compared: a fault of its layers names the side
abbrev pub stack_on_side : Side → List LayerBytes → Result (List LayerOf) ToolFault
stack_on_side side layers = map_err (fault_on_side side) (stack_in layers)
