-- The faults of parts, as faults of a command.
use Rattle.std.specs.Prelude.{Result, Ok, Err}
use Rattle.command_base.specs.declared.fault.ToolFault.{ToolFault}

-- what a part is, or its fault as one of the command
abbrev pub map_err : {X E : Type 0} → (E → ToolFault) → Result X E → Result X ToolFault
map_err fault_of (Ok x) = Ok x
map_err fault_of (Err fault) = Err (fault_of fault)
