-- How many boxes of a list have a device, as a number.
use Rattle.std.specs.Prelude.{◌≡◌, ℕ, ◌==◌, ◌&&◌, nat_le, if◌then◌else◌, not, Bool, List}
use Rattle.std.specs.List.{list_any, sum_by}
use Rattle.config_box.specs.config_record.declared.coord.Coord.{Coord}
use Rattle.config_box.specs.config_record.Coord.{all_coords}
use Rattle.config_box.specs.config_record.ComparedNumber.{device_number}
use Rattle.config_box.specs.box_answers.NumberSet.{SetOf, RangeOf, NumbersOf, LocalesOf}
use Rattle.config_box.specs.box_answers.Members.{set_at}

-- whether a number is one of a set
abbrev pub is_in : SetOf → ℕ → Bool
is_in (RangeOf low high) n = nat_le low n && nat_le n high
is_in (NumbersOf numbers) n = list_any (λ m. m == n) numbers
is_in (LocalesOf numbers) n = list_any (λ m. m == n) numbers

-- whether a device's number at a coordinate is none of a box's
abbrev pub is_out : List SetOf → List ℕ → Coord → Bool
is_out b d c = not (is_in (set_at b c) (device_number d c))

-- 1 where the box has the device
unfoldable pub counted : List ℕ → List SetOf → ℕ
counted d b = if list_any (is_out b d) all_coords then 0 else 1

-- how many boxes have the device
abbrev pub box_count : List ℕ → List (List SetOf) → ℕ
box_count d boxes = sum_by (counted d) boxes

-- as many as before, of each device
abbrev pub HaveSameCounts : List (List SetOf) → List (List SetOf) → Type 0
HaveSameCounts old new = (d : List ℕ) → box_count d new ≡ box_count d old
