-- How far totals are counted. (Cited by contracts of this crate alone.)
use Rattle.std.specs.Prelude.{ℕ, ◌≤◌, ◌*◌, ◌^◌}
use Rattle.resource_tool.specs.declared.unused_rows.Totals.{Totals}

-- they are those of at most so many rows, of which none has an entry of 2 ^ 36 bytes
pub record IsWithin (most : ℕ) (totals : Totals) : Type 0 where
  pub loaded : totals.loaded ≤ most
  pub overlaid : totals.overlaid ≤ most
  pub unused : totals.unused ≤ most
  pub unmapped : totals.unmapped ≤ most
  pub bytes : totals.bytes ≤ most * 2 ^ 36
