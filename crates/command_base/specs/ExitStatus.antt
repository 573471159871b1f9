-- How the program ends.
use Rattle.std.specs.Prelude.{ℕ}
use Rattle.command_base.specs.declared.fault.ToolFault.{ToolFault}
use Rattle.command_base.specs.declared.fault.ToolFault.TheVariants.{OutOfMemory, Write}
use Rattle.command_base.specs.declared.status.Status.{Status}
use Rattle.command_base.specs.declared.status.Status.TheVariants as statuses
use Rattle.command_base.specs.declared.exit_status.ExitStatus.{ExitStatus}
use Rattle.command_base.specs.declared.exit_status.ExitStatus.TheVariants.{Done, Negative, BadCommandLine, Refused, Memory, Failed}

-- the number that the process ends with
abbrev pub number_of : ExitStatus → ℕ
number_of Done = 0
number_of Negative = 1
number_of BadCommandLine = 2
number_of Refused = 3
number_of Memory = 4
number_of Failed = 5

-- how the program ends after a fault of a command; all others are of an input that is refused
abbrev pub after_fault : ToolFault → ExitStatus
after_fault OutOfMemory = Memory
after_fault Write = Failed
after_fault _ = Refused

-- how the program ends where a command was carried out
abbrev pub after_status : Status → ExitStatus
after_status statuses.Done = Done
after_status statuses.Negative = Negative
