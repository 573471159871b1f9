-- How contracts see differences: by what they say, not by their addresses.
use Rattle.std.specs.Prelude.{List, [], map, Option, Some, None}
use Rattle.answer_text.specs.declared.content.RowContent.{RowContent}
use Rattle.stack_diff.specs.declared.difference.RowDifference.{RowDifference}
use Rattle.stack_diff.specs.declared.difference.RowDifference.TheVariants as of_row
use Rattle.stack_diff.specs.declared.difference.Difference.{Difference}
use Rattle.stack_diff.specs.declared.difference.Difference.TheVariants as of_difference
use Rattle.answer_text.specs.ContentSeen.{value_content_of, row_key_of, row_content_of, content_of}
use Rattle.stack_diff.specs.Difference.{RowDifferenceOf, RowRemoved, RowAdded, RowChanged, changed_row, DifferenceOf, RowsDiffer, ContentsDiffer, FromNothing}

abbrev pub row_difference_of : RowDifference → RowDifferenceOf
row_difference_of (of_row.Removed row) = RowRemoved (row_content_of row)
row_difference_of (of_row.Added row) = RowAdded (row_content_of row)
row_difference_of (of_row.Changed key before after) = RowChanged (row_key_of key) (value_content_of before) (value_content_of after)

-- how two rows of one key differ, if there are two
abbrev pub changed_rows : Option (RowContent × RowContent) → List RowDifferenceOf
changed_rows (Some both) = changed_row (row_content_of both.0) (row_content_of both.1)
changed_rows None = []

abbrev pub difference_of : Difference → DifferenceOf
difference_of (of_difference.Rows rows) = RowsDiffer (map row_difference_of rows.items)
difference_of (of_difference.Contents before after) = ContentsDiffer (content_of before) (content_of after)
difference_of (of_difference.FromNothing content) = FromNothing (content_of content)
