-- Bytes that were lent, or a fault.
use Rattle.std.specs.Prelude.{ℕ, List, Result, Ok, Err}
use Rattle.std.specs.Borrow.{Bor}

-- how contracts see what a call returned: by its content, not its address
abbrev pub seen_part : {E : Type 0} → Result (Bor (List ℕ)) E → Result (List ℕ) E
seen_part (Ok part) = Ok part.now
seen_part (Err fault) = Err fault
