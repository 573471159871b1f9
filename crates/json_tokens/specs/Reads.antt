-- What was read of what stands at the front of tokens.
use Rattle.std.specs.Prelude.{◌≡◌, ◌≢◌, List, Option, Some, None, option_map, Result, Ok, Err}
use Rattle.json.specs.Token.{Token}
use Rattle.json.specs.Json.{parse_map}
use Rattle.json_tokens.specs.declared.malformed.Malformed.{Malformed}

-- It is passed, and these tokens are left; or nothing stands there.
abbrev pub Passes : {A : Type 0} → Option (A × List Token) → Result (Unit {0}) Malformed → List Token → Type 0
Passes stands (Ok _) new = option_map (λ p. p.1) stands ≡ Some new
Passes stands (Err _) new = stands ≡ None

-- What was returned, seen by view, is what it means, and these tokens are left; or nothing stands there.
abbrev pub Reads : {A X Y : Type 0} → (Y → X) → (A → X) → Option (A × List Token) → Result Y Malformed → List Token → Type 0
Reads view meant stands (Ok y) new = parse_map meant stands ≡ Some (view y, new)
Reads view meant stands (Err _) new = stands ≡ None

-- The same where memory may run out, by the faults that the reader has for a text that is no JSON and for a want of
-- memory.
abbrev pub ReadsOr : {A X Y E : Type 0} → E → E → (Y → X) → (A → X) → Option (A × List Token) → Result Y E → List Token → Type 0
ReadsOr no_json no_memory view meant stands (Ok y) new = parse_map meant stands ≡ Some (view y, new)
ReadsOr no_json no_memory view meant stands (Err fault) new = fault ≢ no_memory → (fault ≡ no_json) × (stands ≡ None)
