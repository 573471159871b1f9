-- What an order of checks says where none was met.
use Rattle.std.proofs.Common.{◌≡◌, Bool, true, false, cond, List, [], ◌∷◌, Result, Ok, Err, refl}
use Rattle.contract_words.specs.Faults.{checked_by}

-- no check of the list is met
abbrev pub NoneMet : {E : Type 0} → List (Bool × E) → Type 0
NoneMet [] = Unit {0}
NoneMet (check ∷ checks) = (check.0 ≡ false) × NoneMet checks

check_not_met : {X E : Type 0} (b : Bool) (d : E) (others : Result X E) (y : X) → cond b (Err d) others ≡ Ok y → (b ≡ false) × (others ≡ Ok y)
check_not_met true d others y e = absurd cc
check_not_met false d others y e = (refl, e)

pub checked_by-ok : {X E : Type 0} (checks : List (Bool × E)) (meant : Result X E) (y : X) → checked_by checks meant ≡ Ok y → NoneMet checks × (meant ≡ Ok y)
checked_by-ok [] meant y e = (tt, e)
checked_by-ok (check ∷ checks) meant y e =
    let first = check_not_met check.0 check.1 (checked_by checks meant) y e in
    let others = checked_by-ok checks meant y first.1 in
    ((first.0, others.0), others.1)
