-- How two resources differ, as text.
use Rattle.std.specs.Prelude.{ℕ, List, [], ◌∷◌, ◌++◌, codes}
use Rattle.std.specs.List.{flat_map}
use Rattle.stack_diff.specs.config_box.box_answers.NumberSet.{SetOf}
use Rattle.notation.specs.declared.form.Form.{Form}
use Rattle.answer_text.specs.Content.{RowContentOf, ContentOf, ValueOf, BagOf, AbsentOf, TooManyReferencesOf, TooManyParentsOf}
use Rattle.stack_diff.specs.Difference.{RowDifferenceOf, RowRemoved, RowAdded, RowChanged, DifferenceOf, RowsDiffer, ContentsDiffer, FromNothing}
use Rattle.answer_text.specs.InForm.{key_in, row_value_in}
use Rattle.stack_diff.specs.names.Packages.{PackageNameOf}
use Rattle.resource_text.specs.DevicesText.{devices_in}
use Rattle.resource_text.specs.ContentText.{content_text, content_behind}
use Rattle.resource_text.specs.BagRows.{removed_row, added_row, value_row}

-- ---- rows

-- `  removed KEY VALUE`, `  added KEY VALUE` or `  KEY BEFORE -> AFTER`
unfoldable pub row_line : Form → List PackageNameOf → RowDifferenceOf → List ℕ
row_line form packages (RowRemoved row) = removed_row form packages row
row_line form packages (RowAdded row) = added_row form packages row
row_line form packages (RowChanged key before after) =
    codes "  " ++ key_in form packages key ++ codes " " ++ row_value_in form packages key before ++ codes " -> " ++ row_value_in form packages key after ++ 10 ∷ []

-- what is no bag has no rows
abbrev pub rows_in : ContentOf → List RowContentOf
rows_in (ValueOf value) = []
rows_in (BagOf rows) = rows
rows_in (AbsentOf label) = []
rows_in (TooManyReferencesOf label) = []
rows_in (TooManyParentsOf label) = []

-- those of the rows that differ; of a bag on one side alone, or beside nothing, all of them
unfoldable pub row_lines : Form → List PackageNameOf → DifferenceOf → List ℕ
row_lines form packages (RowsDiffer rows) = flat_map (row_line form packages) rows
row_lines form packages (ContentsDiffer before after) = flat_map (removed_row form packages) (rows_in before) ++ flat_map (added_row form packages) (rows_in after)
row_lines form packages (FromNothing content) = flat_map (value_row form packages) (rows_in content)

-- ---- behind the label

-- ` BEFORE -> AFTER`, and ` CONTENT` beside nothing; nothing for bags, whose rows tell it
unfoldable pub before_and_after : Form → List PackageNameOf → DifferenceOf → List ℕ
before_and_after form packages (RowsDiffer rows) = []
before_and_after form packages (ContentsDiffer before after) = codes " " ++ content_text form packages before ++ codes " -> " ++ content_text form packages after
before_and_after form packages (FromNothing content) = content_behind form packages content

-- ` BEFORE -> AFTER on ..` or ` CONTENT on ..`, for the devices of a part of the whole box, and the lines of rows
unfoldable pub difference_text : Form → List PackageNameOf → DifferenceOf → List SetOf → List SetOf → List ℕ
difference_text form packages difference whole part = before_and_after form packages difference ++ devices_in form whole part ++ 10 ∷ row_lines form packages difference
