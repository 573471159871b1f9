-- What a command prints, and how it ends.
use Rattle.std.specs.Prelude.{◌≡◌, ◌≢◌, ℕ, Bool, List, Option, Result, Ok, Err, IsOk, IfErr, if◌then◌else◌}
use Rattle.std.specs.Io.KnownBytes.{Appends}
use Rattle.command_base.specs.declared.fault.ToolFault.{ToolFault}
use Rattle.command_base.specs.declared.fault.ToolFault.TheVariants.{OutOfMemory, Write}
use Rattle.command_base.specs.declared.status.Status.{Status}
use Rattle.command_base.specs.declared.status.Status.TheVariants.{Done, Negative}

-- Negative where this holds, else Done
abbrev pub negative_if : Bool → Status
negative_if negative = if negative then Negative else Done

-- how a command ends, and the text that it prints
pub record Output : Type 0 where
  pub status : Status
  pub text : List ℕ

-- A command answered what is meant, and the writer, which was old and is new, got the text of that and
-- nothing else. A fault of the input is the one that is meant, and then the writer is as it was. So it is
-- where memory ran out, and nothing else is said there. A writer fails only where the input is read.
abbrev pub Prints : {W : Type 0} → (W → Option (List ℕ)) → W → W → Result Status ToolFault → Result Output ToolFault → Type 0
Prints contents old new (Ok status) meant =
    (text : List ℕ) × (meant ≡ Ok (record { status = status; text = text })) × Appends (contents old) (contents new) text
Prints contents old new (Err OutOfMemory) meant = new ≡ old
Prints contents old new (Err Write) meant = IsOk meant
Prints contents old new (Err fault) meant = (meant ≡ Err fault) × (new ≡ old)

-- The same where one of several answers may be given: it is one that the input allows, which is what is meant.
abbrev pub PrintsOneOf : {W X : Type 0} → (X → Output → Type 0) → (W → Option (List ℕ)) → W → W → Result Status ToolFault → Result X ToolFault → Type 0
PrintsOneOf {W} {X} Allows contents old new (Ok status) meant =
    (input : X) × (text : List ℕ) × (meant ≡ Ok input) × Allows input (record { status = status; text = text })
    × Appends (contents old) (contents new) text
PrintsOneOf Allows contents old new (Err OutOfMemory) meant = new ≡ old
PrintsOneOf Allows contents old new (Err Write) meant = IsOk meant
PrintsOneOf Allows contents old new (Err fault) meant = (meant ≡ Err fault) × (new ≡ old)

-- A call that reads an input writes nothing, so no writer failed in it.
abbrev pub IsOfInput : {X : Type 0} → Result X ToolFault → Type 0
IsOfInput result = IfErr result (λ fault. fault ≢ Write)
