use Rattle.std.proofs.Common.{List, ◌++◌, map, ap, ◌∙◌}
use Rattle.answer_text.specs.ContentSeen.{row_content_of}
use Rattle.answer_text.specs.declared.content.RowContent.{RowContent}
use Rattle.stack_diff.specs.declared.difference.RowDifference.{RowDifference}
use Rattle.stack_diff.specs.Difference.{row_differences}
use Rattle.stack_diff.specs.DifferenceSeen.{row_difference_of}
use Rattle.stack_diff.proofs.difference.row_differences.Goals as goal

pub returns : goal.returns
returns c =
    let differ = λ (before after : List RowContent). row_differences (map row_content_of before) (map row_content_of after) in
    let after = c.from-after.result.items in
    c.in_ok-push_differences.ensures
    ∙ ap (λ (rows : List RowDifference). map row_difference_of rows ++ differ c.from-before.result.items after) c.new-rows.ensures.items
    ∙ ap (λ (before : List RowContent). differ before after) c.from-before.ensures.0
    ∙ ap (differ c.args.before.items) c.from-after.ensures.0
