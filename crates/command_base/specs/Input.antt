-- What was read of an input.
use Rattle.std.specs.Prelude.{◌≡◌, ℕ, ◌<◌, ◌≤◌, List, length, Option, Result, Ok, Err, Vec, vec_len, IfSome}
use Rattle.std.specs.declared.alloc.Global.{Global}
use Rattle.std.specs.Io.KnownBytes.{Consumes, IsAtEnd}
use Rattle.command_base.specs.declared.input.InputFault.{InputFault}
use Rattle.command_base.specs.declared.input.InputFault.TheVariants.{Read, TooLarge, OutOfMemory}

-- A reader, which had old left and has new, gave bytes whose number has this property.
abbrev pub Gave : Option (List ℕ) → Option (List ℕ) → (ℕ → Type 0) → Type 0
Gave old new P = (bytes : List ℕ) × Consumes old new bytes × P (length bytes)

-- All bytes of a reader were read, and they are not more than the limit. Or more than the limit came, or a read failed
-- before that. Where memory ran out, nothing is said.
abbrev pub ReadsWithin : ℕ → Option (List ℕ) → Option (List ℕ) → Result (Vec ℕ Global) InputFault → Type 0
ReadsWithin limit old new (Ok input) = IfSome old (λ bytes. input.items ≡ bytes) × IsAtEnd new × (vec_len input ≤ limit)
ReadsWithin limit old new (Err TooLarge) = Gave old new (λ count. limit < count)
ReadsWithin limit old new (Err Read) = Gave old new (λ count. count ≤ limit)
ReadsWithin limit old new (Err OutOfMemory) = Unit {0}
