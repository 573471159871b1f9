-- Two devices that stand side by side at a coordinate. (Cited by contracts of this crate alone.)
use Rattle.std.specs.Prelude.{◌≡◌, ◌≢◌, ℕ, List}
use Rattle.bags_themes.specs.config_record.declared.coord.Coord.{Coord}
use Rattle.bags_themes.specs.config_record.ComparedNumber.{device_number}
use Rattle.bags_themes.specs.config_record.DeviceSeen.{device_numbers}
use Rattle.config_box.specs.box_answers.declared.member_pair.MemberPair.{MemberPair}

-- they have the same number at each coordinate but this one
abbrev pub AreAlikeBut : Coord → List ℕ → List ℕ → Type 0
AreAlikeBut c x y = (k : Coord) → k ≢ c → device_number x k ≡ device_number y k

-- this is the coordinate of a pair, and all in which its two devices differ
pub record DifferAt (c : Coord) (pair : MemberPair) : Type 0 where
  pub at : pair.coord ≡ c
  pub others : AreAlikeBut c (device_numbers pair.yes) (device_numbers pair.no)
