-- Two records that say the same.
use Rattle.std.specs.Prelude.{◌≡◌, ℕ, List}
use Rattle.config_record.specs.declared.coord.Coord.{Coord}
use Rattle.config_record.specs.Record.{coordinate, locale_in, locale_script, locale_variant}

pub record IsSameConfig (one other : List ℕ) : Type 0 where
  pub numbers : (coord : Coord) → coordinate one coord ≡ coordinate other coord
  pub locale : locale_in one ≡ locale_in other
  pub script : locale_script one ≡ locale_script other
  pub variant : locale_variant one ≡ locale_variant other
