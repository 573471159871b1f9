use Rattle.std.proofs.Common.{◌≡◌, map, take}
use Rattle.serde_json.specs.View.{view}
use Rattle.stack_diff.specs.DifferenceSeen.{row_difference_of}
use Rattle.resource_text.specs.ChangeJson.{row_change_data}
use Rattle.resource_text.proofs.change_json.row_changes_json.Given as goal

-- the values of the rows so far
abbrev pub invariant-loop-row : goal.invariant-loop-row
invariant-loop-row l = map view l.values.items ≡ map (λ row. row_change_data l.packages (row_difference_of row)) (take l.row-index l.rows)
