-- The stack after a change, which is read where its layers have other bytes than those before. (Cited by contracts of this crate
-- alone.)
use Rattle.std.specs.Prelude.{◌≡◌, ◌≢◌, true, false, List, Option, Some, None, Result, Ok, Err}
use Rattle.command_base.specs.StackBytes.{LayerBytes, stack_on_side}
use Rattle.command_base.specs.declared.fault.ToolFault.{ToolFault}
use Rattle.command_base.specs.declared.fault.ToolFault.TheVariants.{OutOfMemory, Write}
use Rattle.command_base.specs.declared.side.Side.TheVariants.{New}
use Rattle.command_base.specs.overlay_map.Layer.{LayerOf}
use Rattle.resource_tool.specs.DiffInputs.{have_same_bytes}

-- none where the bytes are the same
abbrev pub IsChanged : List LayerBytes → List LayerBytes → Option (List LayerOf) → Type 0
IsChanged old new None = (have_same_bytes old new ≡ true) × (new ≡ old)
IsChanged old new (Some stack) = (have_same_bytes old new ≡ false) × (stack_on_side New new ≡ Ok stack)

abbrev pub OpensChanged : List LayerBytes → List LayerBytes → Result (Option (List LayerOf)) ToolFault → Type 0
OpensChanged old new (Ok changed) = IsChanged old new changed
OpensChanged old new (Err fault) = (fault ≢ Write) × (fault ≢ OutOfMemory → stack_on_side New new ≡ Err fault)
