-- A call that fills in what is meant and takes no memory.
use Rattle.std.specs.Prelude.{◌≡◌, Result, Ok, Err}

-- It filled in what is meant, and this is new; or it has the fault that is meant.
abbrev pub FillsIn : {X E : Type 0} → X → Result (Unit {0}) E → Result X E → Type 0
FillsIn new (Ok _) meant = meant ≡ Ok new
FillsIn new (Err fault) meant = meant ≡ Err fault
