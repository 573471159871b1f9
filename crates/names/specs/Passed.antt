-- Rows that were noted. Contracts within the crate alone speak of this.
use Rattle.std.specs.Prelude.{◌≡◌, ℕ, ◌==◌, ◌&&◌, Bool, not, slice_index_or}
use Rattle.overlay_map.specs.type_chunks.Row.{RowOf}
use Rattle.names.specs.declared.passed.Passed.{Passed}

-- the id of the row that was noted last for a key; 0 where there was none
abbrev pub last_id : Passed → ℕ → ℕ
last_id passed key = slice_index_or passed.ids.items key 0

-- whether a row of the id and the names of this one was noted
abbrev pub was_passed : Passed → RowOf → Bool
was_passed passed row = not (row.id == 0) && row.in_package == passed.package_index && last_id passed row.key == row.id

-- rows of one id whose names stand at the same places
pub record HaveSameNames (row other : RowOf) : Type 0 where
  pub in_package : row.in_package ≡ other.in_package
  pub id : row.id ≡ other.id
  pub key : row.key ≡ other.key
