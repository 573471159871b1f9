-- What is printed as an answer, and what is said beside it of the goal that it is about.
use Rattle.std.specs.Prelude.{◌≡◌, ℕ, List, Option, None, Result, Ok, Err, IsOk}
use Rattle.std.specs.Io.KnownBytes.{Appends}
use Rattle.command_base.specs.declared.fault.ToolFault.{ToolFault}
use Rattle.command_base.specs.declared.fault.ToolFault.TheVariants.{OutOfMemory, Write}
use Rattle.command_base.specs.declared.status.Status.{Status}
use Rattle.command_base.specs.Output.{Output}
use Rattle.resource_tool.specs.declared.answered.Answered.{Answered}

-- the status of an answer
abbrev pub status_in : Result Answered ToolFault → Result Status ToolFault
status_in (Ok answered) = Ok answered.status
status_in (Err fault) = Err fault

-- the goal that it is about
abbrev pub goal_in : Result Answered ToolFault → Option ℕ
goal_in (Ok answered) = answered.about
goal_in (Err fault) = None

-- A command gave one of several answers that the input allows: one writer got its text, another its lines, and neither
-- anything else. Where the input has a fault, or memory ran out, both are as they were. A writer fails only where the
-- input is read.
abbrev pub PrintsBothOneOf : {W V X : Type 0} → (X → Output → List ℕ → Type 0) → (W → Option (List ℕ)) → (V → Option (List ℕ)) → W → W → V → V
    → Result Status ToolFault → Result X ToolFault → Type 0
PrintsBothOneOf {W} {V} {X} Allows contents says old new before after (Ok status) meant =
    (input : X) × (text : List ℕ) × (lines : List ℕ) × (meant ≡ Ok input) × Allows input (record { status = status; text = text }) lines
    × Appends (contents old) (contents new) text × Appends (says before) (says after) lines
PrintsBothOneOf Allows contents says old new before after (Err OutOfMemory) meant = (new ≡ old) × (after ≡ before)
PrintsBothOneOf Allows contents says old new before after (Err Write) meant = IsOk meant
PrintsBothOneOf Allows contents says old new before after (Err fault) meant = (meant ≡ Err fault) × (new ≡ old) × (after ≡ before)
