-- An answer with nothing said beside it.
use Rattle.std.proofs.Common.{ℕ, List, [], Option, Result, Ok, Err, ap, refl}
use Rattle.std.proofs.KnownBytes.{Appends-nil}
use Rattle.command_base.specs.Output.{Output, Prints}
use Rattle.command_base.specs.declared.fault.ToolFault.{ToolFault}
use Rattle.command_base.specs.declared.fault.ToolFault.TheVariants.{OutOfMemory, Write}
use Rattle.command_base.specs.declared.status.Status.{Status}
use Rattle.resource_tool.specs.MapOutput.{PrintsBoth, alone}

reads-alone : (meant : Result Output ToolFault) (V : Type 0) (says : V → Option (List ℕ)) (beside : V) {W : Type 0} (contents : W → Option (List ℕ)) (old new : W)
    → Prints contents old new (Err Write) meant → PrintsBoth contents says old new beside beside (Err Write) (alone meant)
reads-alone (Ok output) V says beside contents old new printed = printed
reads-alone (Err fault) V says beside contents old new printed = printed

pub prints-alone : {W V : Type 0} (contents : W → Option (List ℕ)) (says : V → Option (List ℕ)) (old new : W) (beside : V) (done : Result Status ToolFault) (meant : Result Output ToolFault)
    → Prints contents old new done meant → PrintsBoth contents says old new beside beside done (alone meant)
prints-alone contents says old new beside (Ok status) meant printed = (printed.0, [], ap alone printed.1, printed.2, Appends-nil (says beside))
prints-alone contents says old new beside (Err OutOfMemory) meant printed = (printed, refl)
prints-alone {W} {V} contents says old new beside (Err Write) meant printed = reads-alone meant V says beside contents old new printed
prints-alone contents says old new beside (Err fault) meant printed = (ap alone printed.0, printed.1, refl)
