-- Where a part of a box is narrower than the whole.
use Rattle.std.specs.Prelude.{ℕ, ◌+◌, ◌-◌, nat_lt, Bool, List, length}
use Rattle.config_record.specs.declared.coord.Coord.{Coord}
use Rattle.config_box.specs.box_answers.NumberSet.{SetOf, RangeOf, NumbersOf, LocalesOf}
use Rattle.config_box.specs.box_answers.Members.{set_at}

-- how many numbers a set has
abbrev pub number_count : SetOf → ℕ
number_count (RangeOf low high) = high - low + 1
number_count (NumbersOf numbers) = length numbers
number_count (LocalesOf numbers) = length numbers

-- the part has fewer numbers there
unfoldable pub is_narrower : List SetOf → List SetOf → Coord → Bool
is_narrower whole part c = nat_lt (number_count (set_at part c)) (number_count (set_at whole c))
