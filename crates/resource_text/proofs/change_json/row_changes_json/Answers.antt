use Rattle.std.proofs.Common.{List, map, sym, ap, ◌∙◌}
use Rattle.std.proofs.lemmas.List.{take_all}
use Rattle.std.proofs.lemmas.Simd.{map-map}
use Rattle.serde_json.specs.View.{view}
use Rattle.stack_diff.specs.declared.difference.RowDifference.{RowDifference}
use Rattle.stack_diff.specs.DifferenceSeen.{row_difference_of}
use Rattle.resource_text.specs.ChangeJson.{row_change_data}
use Rattle.resource_text.proofs.Mapped.{one-more}
use Rattle.resource_text.proofs.change_json.row_changes_json.Goals as goal

pub loop-row-preserved : goal.loop-row-preserved
loop-row-preserved c =
    one-more view (λ row. row_change_data c.args.packages.now (row_difference_of row)) c.args.rows.now c.loop-row.row-index c.row-item.result c.loop-row.values.items _ c.in_ok-value.value c.loop-row-test.true
    c.row-item.is c.loop-row.invariant c.in_ok-push.ensures.items c.in_ok-value.ensures

pub returns : goal.returns
returns c =
    c.loop-row.invariant
    ∙ ap (λ (rows : List RowDifference). map (λ row. row_change_data c.args.packages.now (row_difference_of row)) rows) (take_all c.loop-row.row-index c.args.rows.now c.loop-row-test.false)
    ∙ sym (map-map (row_change_data c.args.packages.now) row_difference_of c.args.rows.now)
