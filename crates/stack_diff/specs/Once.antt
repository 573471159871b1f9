-- Which of some boxes has a device.
use Rattle.std.specs.Prelude.{ℕ, List}
use Rattle.cert_maker.specs.box_answers.NumberSet.{SetOf}
use Rattle.config_box.specs.Devices.{HasNone, HasOnce}

-- a device that is in none of the first is in none of the others, and one that is in one alone is in one alone
pub record KeepsEach (old new : List (List SetOf)) : Type 0 where
  pub none : (d : List ℕ) → HasNone d old → HasNone d new
  pub once : (d : List ℕ) → HasOnce d old → HasOnce d new
