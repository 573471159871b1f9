-- Tests of one coordinate, as contracts see them: how devices answer them, and which can be asked of a box.
use Rattle.std.specs.Prelude.{ℕ, ◌==◌, nat_le, Bool, true, false, List}
use Rattle.std.specs.List.{list_any}
use Rattle.box_answers.specs.config_record.declared.coord.Coord as coord
use Rattle.box_answers.specs.config_record.declared.coord.Coord.TheVariants as coords
use Rattle.box_answers.specs.config_record.locales.declared.locale.Locale.{Locale}
use Rattle.box_answers.specs.config_record.ComparedNumber.{device_number}
use Rattle.box_answers.specs.NumberSet as sets
use Rattle.box_answers.specs.NumberSet.{SetOf, locale_numbers}
use Rattle.box_answers.specs.Members.{set_at}
use Rattle.config_box.specs.declared.test.Test.{Test}
use Rattle.config_box.specs.declared.test.Test.TheVariants.{AtMost, Among}
use Rattle.config_box.specs.declared.test.Choice.{Choice}
use Rattle.config_box.specs.declared.test.Choice.TheVariants.{Numbers, Locales}

-- listed numbers, or locales
pub data ChoiceOf : Type 0 where
  NumbersOf : List ℕ → ChoiceOf
  LocalesOf : List Locale → ChoiceOf

-- is the number at most this; is the value one of these
pub data TestOf : Type 0 where
  AtMostOf : coord.Coord → ℕ → TestOf
  AmongOf : coord.Coord → ChoiceOf → TestOf

abbrev pub choice_of : Choice → ChoiceOf
choice_of (Numbers numbers) = NumbersOf numbers.items
choice_of (Locales locales) = LocalesOf locales.items

abbrev pub test_of : Test → TestOf
test_of (AtMost c most) = AtMostOf c most
test_of (Among c choice) = AmongOf c (choice_of choice)

-- the coordinate that a test asks for
abbrev pub coord_of : TestOf → coord.Coord
coord_of (AtMostOf c most) = c
coord_of (AmongOf c choice) = c

-- a number is one of a list; a list of another kind than the coordinate holds none of its values
unfoldable pub is_listed : coord.Coord → ChoiceOf → ℕ → Bool
is_listed coords.Locale (NumbersOf numbers) n = false
is_listed coords.Locale (LocalesOf locales) n = list_any (λ m. m == n) (locale_numbers locales)
is_listed c (NumbersOf numbers) n = list_any (λ m. m == n) numbers
is_listed c (LocalesOf locales) n = false

-- the answer of a number at the test's coordinate
abbrev pub passes : TestOf → ℕ → Bool
passes (AtMostOf c most) n = nat_le n most
passes (AmongOf c choice) n = is_listed c choice n

-- the answer of a device
abbrev pub answers : TestOf → List ℕ → Bool
answers test d = passes test (device_number d (coord_of test))

abbrev pub is_range : SetOf → Bool
is_range (sets.RangeOf low high) = true
is_range (sets.NumbersOf numbers) = false
is_range (sets.LocalesOf numbers) = false

-- whether a number is at most a bound can be asked wherever there are numbers, whether it is listed where the box has a choice
unfoldable pub has_wrong_kind : List SetOf → TestOf → Bool
has_wrong_kind box (AtMostOf coords.Locale most) = true
has_wrong_kind box (AtMostOf c most) = false
has_wrong_kind box (AmongOf c choice) = is_range (set_at box c)
