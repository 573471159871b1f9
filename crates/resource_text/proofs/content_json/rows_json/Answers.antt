use Rattle.std.proofs.Common.{List, map, sym, ap, ◌∙◌}
use Rattle.std.proofs.lemmas.List.{take_all}
use Rattle.std.proofs.lemmas.Simd.{map-map}
use Rattle.serde_json.specs.View.{view}
use Rattle.answer_text.specs.declared.content.RowContent.{RowContent}
use Rattle.answer_text.specs.ContentSeen.{row_content_of}
use Rattle.resource_text.specs.ContentJson.{row_data}
use Rattle.resource_text.proofs.Mapped.{one-more}
use Rattle.resource_text.proofs.content_json.rows_json.Goals as goal

pub loop-row-preserved : goal.loop-row-preserved
loop-row-preserved c =
    one-more view (λ row. row_data c.args.packages.now (row_content_of row)) c.args.rows.now c.loop-row.row-index c.row-item.result c.loop-row.values.items _ c.in_ok-value.value c.loop-row-test.true
    c.row-item.is c.loop-row.invariant c.in_ok-push.ensures.items c.in_ok-value.ensures

pub returns : goal.returns
returns c =
    c.loop-row.invariant
    ∙ ap (λ (rows : List RowContent). map (λ row. row_data c.args.packages.now (row_content_of row)) rows) (take_all c.loop-row.row-index c.args.rows.now c.loop-row-test.false)
    ∙ sym (map-map (row_data c.args.packages.now) row_content_of c.args.rows.now)
