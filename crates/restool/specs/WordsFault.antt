-- Why words ask for nothing, and what is said then.
use Rattle.std.specs.Prelude.{ℕ, Bool, true, false, List, [], ◌∷◌, ◌++◌, codes, Option, Some, None, Result, Ok, Err, if◌then◌else◌}
use Rattle.clap.specs.Values.{kind_of}
use Rattle.clap.specs.declared.error.Error.{Error}
use Rattle.clap.specs.declared.error.kind.ErrorKind.{ErrorKind}
use Rattle.clap.specs.declared.error.kind.ErrorKind.TheVariants as kinds
use Rattle.resource_tool.specs.command_base.FaultText.{fault_line}
use Rattle.resource_tool.specs.command_base.declared.exit_status.ExitStatus.{ExitStatus}
use Rattle.resource_tool.specs.command_base.declared.exit_status.ExitStatus.TheVariants.{Done, BadCommandLine, Memory, Failed}
use Rattle.resource_tool.specs.command_base.declared.fault.ToolFault.TheVariants as tools
use Rattle.restool.specs.declared.argument_fault.ArgumentFault.{ArgumentFault}
use Rattle.restool.specs.declared.argument_fault.ArgumentFault.TheVariants as arguments
use Rattle.restool.specs.declared.words_fault.WordsFault.{WordsFault}
use Rattle.restool.specs.declared.words_fault.WordsFault.TheVariants as faults

-- for what clap says of words: want of memory is a fault of its own
abbrev pub fault_of_kind : ErrorKind → Error → WordsFault
fault_of_kind kinds.OutOfMemory error = faults.OutOfMemory
fault_of_kind _ error = faults.CommandLine error

-- for what is wrong with a word of an argument
abbrev pub fault_of_argument : ArgumentFault → WordsFault
fault_of_argument (arguments.BadRule word) = faults.BadRule word
fault_of_argument (arguments.BadId word) = faults.BadId word
fault_of_argument arguments.OutOfMemory = faults.OutOfMemory

-- what was read of arguments, or why they ask for nothing
abbrev pub read_of_words : {X : Type 0} → Result X ArgumentFault → Result X WordsFault
read_of_words (Ok x) = Ok x
read_of_words (Err fault) = Err (fault_of_argument fault)

-- where the words of a process are not read: one of them is not UTF-8, or memory ran out
abbrev pub IsOfReading : WordsFault → Type 0
IsOfReading faults.NotText = Unit {0}
IsOfReading faults.OutOfMemory = Unit {0}
IsOfReading _ = ⊥

-- ---- what is said

-- the words ask for help or for the version
abbrev pub is_asked_for : ErrorKind → Bool
is_asked_for kinds.DisplayHelp = true
is_asked_for kinds.DisplayVersion = true
is_asked_for _ = false

-- the text that was asked for goes to the standard output, and all else to the standard error
abbrev pub is_output : WordsFault → Bool
is_output (faults.CommandLine error) = is_asked_for (kind_of error)
is_output _ = false

-- The line that says why. Of a command line clap has the text.
abbrev pub words_line : WordsFault → Option (List ℕ)
words_line (faults.CommandLine error) = None
words_line faults.NotText = Some (codes "command: a word is not UTF-8" ++ 10 ∷ [])
words_line (faults.BadRule word) = Some (codes "command: bad rule of locales " ++ word.now ++ 10 ∷ [])
words_line (faults.BadId word) = Some (codes "command: bad id " ++ word.now ++ 10 ∷ [])
words_line faults.OutOfMemory = Some (fault_line tools.OutOfMemory)

-- how the program ends; was_written says whether the stream took what was said
abbrev pub status_after_words : Bool → WordsFault → ExitStatus
status_after_words was_written (faults.CommandLine error) =
    if is_asked_for (kind_of error) then (if was_written then Done else Failed) else BadCommandLine
status_after_words was_written faults.NotText = BadCommandLine
status_after_words was_written (faults.BadRule word) = BadCommandLine
status_after_words was_written (faults.BadId word) = BadCommandLine
status_after_words was_written faults.OutOfMemory = Memory
