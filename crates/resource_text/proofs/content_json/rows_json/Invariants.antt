use Rattle.std.proofs.Common.{◌≡◌, map, take}
use Rattle.serde_json.specs.View.{view}
use Rattle.answer_text.specs.ContentSeen.{row_content_of}
use Rattle.resource_text.specs.ContentJson.{row_data}
use Rattle.resource_text.proofs.content_json.rows_json.Given as goal

-- the values of the rows so far
abbrev pub invariant-loop-row : goal.invariant-loop-row
invariant-loop-row l = map view l.values.items ≡ map (λ row. row_data l.packages (row_content_of row)) (take l.row-index l.rows)
