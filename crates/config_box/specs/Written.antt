-- What a JSON value says of the coordinates of a box, before it is looked at whether they can be so.
use Rattle.std.specs.Prelude.{ℕ, List, [], ◌∷◌, codes, map, not, Option, Some, None, option_and_then, ok_or, Result, Ok}
use Rattle.contract_words.specs.Faults.{◌>>=◌, refuse}
use Rattle.serde_json.specs.Data.{Data}
use Rattle.serde_json.specs.Find.{get}
use Rattle.json_input.specs.Each.{list_of, each}
use Rattle.json_input.specs.Shape.{has_only, number_of, text_of}
use Rattle.box_answers.specs.config_record.declared.coord.Coord as coord
use Rattle.box_answers.specs.config_record.declared.coord.Coord.TheVariants as coords
use Rattle.box_answers.specs.config_record.Coord.{all_coords, name_of}
use Rattle.config_box.specs.declared.box_fault.BoxFault.{BoxFault}
use Rattle.config_box.specs.declared.box_fault.BoxFault.TheVariants.{Shape}

-- nothing, a range from one number to another, or a list
pub data WrittenOf : Type 0 where
  NothingOf : WrittenOf
  RangeOf : ℕ → ℕ → WrittenOf
  NumbersOf : List ℕ → WrittenOf
  TextsOf : List (List ℕ) → WrittenOf

-- ---- a list

abbrev pub number_item : Data → Result ℕ BoxFault
number_item value = ok_or (number_of value) Shape

abbrev pub text_item : Data → Result (List ℕ) BoxFault
text_item value = ok_or (text_of value) Shape

-- ---- a range: an object with a number at `from` and one at `to`, and no other member

unfoldable pub number_member : List ℕ → Data → Result ℕ BoxFault
number_member name value = ok_or (option_and_then number_of (get name value)) Shape

unfoldable pub range_in : Data → Result (ℕ × ℕ) BoxFault
range_in value = do
  _ ← refuse (not (has_only (codes "from" ∷ codes "to" ∷ []) value)) Shape
  from ← number_member (codes "from") value
  to ← number_member (codes "to") value
  Ok (from, to)

-- ---- each coordinate

-- the numbers of a list, or a range where there is none
abbrev pub numbers_or_range : Option (List Data) → Data → Result WrittenOf BoxFault
numbers_or_range (Some items) value = each number_item items >>= λ numbers. Ok (NumbersOf numbers)
numbers_or_range None value = range_in value >>= λ range. Ok (RangeOf range.0 range.1)

unfoldable pub numbers_in : Data → Result WrittenOf BoxFault
numbers_in value = numbers_or_range (list_of value) value

-- a list of texts
unfoldable pub texts_in : Data → Result WrittenOf BoxFault
texts_in value = do
  items ← ok_or (list_of value) Shape
  texts ← each text_item items
  Ok (TextsOf texts)

-- at the locale a list of texts, elsewhere a list of numbers or a range
unfoldable pub value_at : coord.Coord → Data → Result WrittenOf BoxFault
value_at coords.Locale value = texts_in value
value_at c value = numbers_in value

-- a member that is missing says nothing
abbrev pub member_at : coord.Coord → Option Data → Result WrittenOf BoxFault
member_at c None = Ok NothingOf
member_at c (Some value) = value_at c value

-- with its coordinate
unfoldable pub written_at : Data → coord.Coord → Result (coord.Coord × WrittenOf) BoxFault
written_at value c = member_at c (get (name_of c) value) >>= λ written. Ok (c, written)

-- an object whose members are coordinates: what it says of each of them
unfoldable pub written_in : Data → Result (List (coord.Coord × WrittenOf)) BoxFault
written_in value = do
  _ ← refuse (not (has_only (map name_of all_coords) value)) Shape
  each (written_at value) all_coords
