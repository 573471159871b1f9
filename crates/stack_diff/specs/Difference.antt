-- How two resources differ in what they say.
use Rattle.std.specs.Prelude.{Bool, false, List, [], ◌∷◌, ◌++◌, map, Option, Some, None, if◌then◌else◌}
use Rattle.names.specs.Label.{is_same}
use Rattle.answer_text.specs.Content.{ValueContentOf, RowKeyOf, RowContentOf, ContentOf, ValueOf, BagOf, AbsentOf, TooManyReferencesOf, TooManyParentsOf}
use Rattle.answer_text.specs.ReadAlike.{are_alike}
use Rattle.answer_text.specs.RowKeys.{is_before}

-- ---- rows

pub data RowDifferenceOf : Type 0 where
  -- a row of the bag before alone
  RowRemoved : RowContentOf → RowDifferenceOf
  -- a row of the bag after alone
  RowAdded : RowContentOf → RowDifferenceOf
  -- the key of two rows, the value before and the one after
  RowChanged : RowKeyOf → ValueContentOf → ValueContentOf → RowDifferenceOf

-- two rows of one key: nothing where their values are read alike
abbrev pub changed_row : RowContentOf → RowContentOf → List RowDifferenceOf
changed_row before after = if are_alike before.value after.value then [] else RowChanged before.key before.value after.value ∷ []

-- Side by side, in the order of their keys. A row whose key comes first is one that the other bag does not have; two rows
-- of one key are told together.
unfoldable pub row_differences : List RowContentOf → List RowContentOf → List RowDifferenceOf
row_differences [] after = map RowAdded after
row_differences (row ∷ before) [] = map RowRemoved (row ∷ before)
row_differences (row ∷ before) (other ∷ after) =
    if is_before row other then RowRemoved row ∷ row_differences before (other ∷ after)
    else if is_before other row then RowAdded other ∷ row_differences (row ∷ before) after
    else changed_row row other ++ row_differences before after

-- ---- contents

pub data DifferenceOf : Type 0 where
  -- the rows in which two bags differ, one at least
  RowsDiffer : List RowDifferenceOf → DifferenceOf
  -- what is said before and after, where one of the two is no bag
  ContentsDiffer : ContentOf → ContentOf → DifferenceOf
  -- all that is said, where it is compared with nothing
  FromNothing : ContentOf → DifferenceOf

abbrev pub of_rows : List RowDifferenceOf → Option DifferenceOf
of_rows [] = None
of_rows (row ∷ rows) = Some (RowsDiffer (row ∷ rows))

-- whether two contents are read alike, of which one is no bag
abbrev pub say_same : ContentOf → ContentOf → Bool
say_same (ValueOf value) (ValueOf other) = are_alike value other
say_same (AbsentOf label) (AbsentOf other) = is_same label other
say_same (TooManyReferencesOf label) (TooManyReferencesOf other) = is_same label other
say_same (TooManyParentsOf label) (TooManyParentsOf other) = is_same label other
say_same before after = false

-- how what is said after differs from what is said before; None where a device reads both alike
unfoldable pub difference : ContentOf → ContentOf → Option DifferenceOf
difference (BagOf before) (BagOf after) = of_rows (row_differences before after)
difference before after = if say_same before after then None else Some (ContentsDiffer before after)
