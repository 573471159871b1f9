-- How contracts see the bytes of a layer, and how a layer goes onto a stack.
use Rattle.std.specs.Prelude.{ℕ, List, [], ◌∷◌, ◌++◌, Option, Result, Ok, Err}
use Rattle.std.specs.Borrow.{Bor}
use Rattle.std.specs.Option.{option_map}
use Rattle.command_base.specs.overlay_map.Layer.{LayerOf}
use Rattle.command_base.specs.declared.fault.ToolFault.{ToolFault}
use Rattle.command_base.specs.StackBytes.{LayerBytes}

-- the bytes that are lent
abbrev pub layer_bytes : (Bor (List ℕ) × Option (Bor (List ℕ))) → LayerBytes
layer_bytes layer = record { table = layer.0.now; map = option_map (λ bytes. bytes.now) layer.1 }

-- a stack with what was read of a layer over it
abbrev pub with_layer : List LayerOf → Result LayerOf ToolFault → Result (List LayerOf) ToolFault
with_layer stack (Ok layer) = Ok (stack ++ layer ∷ [])
with_layer stack (Err fault) = Err fault
