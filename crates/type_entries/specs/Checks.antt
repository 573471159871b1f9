-- Calls that only check, and take no memory. Contracts within the crate alone speak of this.
use Rattle.std.specs.Prelude.{◌≡◌, Result, Ok, Err, IsOk}

-- Nothing is wrong with what is meant, or this is its first fault.
abbrev pub Checks : {X Y E : Type 0} → Result X E → Result Y E → Type 0
Checks (Ok _) meant = IsOk meant
Checks (Err fault) meant = meant ≡ Err fault
