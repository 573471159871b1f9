-- What the code asks of units. Contracts within the crate alone speak of this.
use Rattle.std.specs.Prelude.{ℕ, Bool, false, ◌&&◌, not, List, [], ◌∷◌, ◌==◌}

-- whether a unit that is not zero, of two bytes, stands in front
unfoldable pub has_unit : List ℕ → Bool
has_unit [] = false
has_unit (_ ∷ []) = false
has_unit (low ∷ high ∷ units) = not (low == 0 && high == 0)
