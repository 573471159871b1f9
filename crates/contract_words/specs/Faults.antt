-- An order of checks.
use Rattle.std.specs.Prelude.{Bool, List, [], ◌∷◌, Result, Ok, Err, if◌then◌else◌}

-- Each check is a condition and its fault. The fault of the first condition that holds; where none
-- holds, what comes then.
abbrev pub checked_by : {X E : Type 0} → List (Bool × E) → Result X E → Result X E
checked_by [] meant = meant
checked_by (check ∷ checks) meant = if check.0 then Err check.1 else checked_by checks meant

-- What comes after a step that may have a fault: the `←` of a `do`.
infixl 10 ◌>>=◌
abbrev pub ◌>>=◌ : {X Y E : Type 0} → Result X E → (X → Result Y E) → Result Y E
(Ok x) >>= next = next x
(Err fault) >>= next = Err fault

-- a step that has this fault where the condition holds
abbrev pub refuse : {E : Type 0} → Bool → E → Result (Unit {0}) E
refuse condition fault = if condition then Err fault else Ok tt
