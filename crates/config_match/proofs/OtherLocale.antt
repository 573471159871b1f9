-- A record for a locale that does not suit the device does not match it.
use Rattle.std.proofs.Common.{◌≡◌, false, ℕ, List}
use Rattle.config_match.specs.config_record.declared.coord.Coord.TheVariants as coords
use Rattle.config_match.specs.config_record.ComparedNumber.{record_number, device_number}
use Rattle.config_match.specs.Condition.{locale_suits}
use Rattle.config_match.specs.Matching.{is_match}
use Rattle.config_match.proofs.RegionAlone.{unsuited}

pub no_match : (r d : List ℕ) → locale_suits (record_number r coords.Locale) (device_number d coords.Locale) ≡ false → is_match r d ≡ false
unfolding is_match
no_match r d e = unsuited (record_number r) (device_number d) e
