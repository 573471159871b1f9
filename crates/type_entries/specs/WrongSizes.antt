-- How many rows of bags have a value of another size than a value has, up to each place. Contracts
-- within the crate alone speak of this.
use Rattle.std.specs.Prelude.{◌≡◌, ℕ, ◌+◌, ◌<◌, Bool, List, length, drop, get_or, if◌then◌else◌}
use Rattle.res_value.specs.Layout.{row_size}
use Rattle.res_value.specs.MapRows.{has_wrong_size}

-- whether a row at a place has a value of another size
unfoldable pub is_wrong : List ℕ → ℕ → Bool
is_wrong bytes place = has_wrong_size (drop place bytes) 0

-- each of these counts is that of the row before, and one more where the row before is wrong
abbrev pub CountWrong : List ℕ → List ℕ → Type 0
CountWrong bytes counts = (place : ℕ) → place + row_size < length counts
    → get_or counts (place + row_size) 0 ≡ get_or counts place 0 + (if is_wrong bytes place then 1 else 0)
