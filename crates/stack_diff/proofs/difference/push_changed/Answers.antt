use Rattle.std.proofs.Common.{List, ◌++◌, map, Option, sym, ◌∙◌, ap}
use Rattle.std.proofs.lemmas.List.{append-nil, map_push}
use Rattle.answer_text.specs.declared.content.RowContent.{RowContent}
use Rattle.stack_diff.specs.Difference.{RowDifferenceOf}
use Rattle.stack_diff.specs.DifferenceSeen.{row_difference_of, changed_rows}
use Rattle.stack_diff.proofs.difference.push_changed.Goals as goal

pub returns-in_ok-push : goal.returns-in_ok-push
returns-in_ok-push c =
    let old = map row_difference_of c.args.rows.now.items in
    ap (map row_difference_of) c.in_ok-push.ensures.items
    ∙ map_push row_difference_of c.args.rows.now.items c.in-Some-changed_row.row
    ∙ ap (λ (rows : List RowDifferenceOf). old ++ rows) c.in-Some-changed_row.ensures
    ∙ ap (λ (both : Option (RowContent × RowContent)). old ++ changed_rows both) (sym c.in-Some.is)

pub returns-in_default-changed_row : goal.returns-in_default-changed_row
returns-in_default-changed_row c =
    let old = map row_difference_of c.args.rows.now.items in
    sym (append-nil old)
    ∙ ap (λ (rows : List RowDifferenceOf). old ++ rows) c.in_default-changed_row.ensures
    ∙ ap (λ (both : Option (RowContent × RowContent)). old ++ changed_rows both) (sym c.in-Some.is)
