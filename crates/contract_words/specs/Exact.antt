-- A call that takes memory answers exactly what is meant, or that memory ran out.
use Rattle.std.specs.Prelude.{◌≡◌, ◌≢◌, Result, Ok, Err}

-- What was returned, seen by view, is what is meant. An error out_of_memory leaves open what is meant.
abbrev pub GivesOr : {X Y E : Type 0} → E → (X → Y) → Result X E → Result Y E → Type 0
GivesOr out_of_memory view (Ok x) meant = meant ≡ Ok (view x)
GivesOr out_of_memory view (Err fault) meant = fault ≢ out_of_memory → meant ≡ Err fault
