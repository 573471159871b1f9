use Rattle.std.proofs.Common.{◌≡◌, length}
use Rattle.type_chunks.specs.Row.{with_id}
use Rattle.overlay_map.proofs.rows.RowsIterator.next.Given as goal

-- of the rows that were passed over none has the id
abbrev pub invariant-loop-row : goal.invariant-loop-row
invariant-loop-row l = with_id l.self-inside.id.0 l.self-inside.all ≡ l.fn.self

abbrev pub decreases-loop-row : goal.decreases-loop-row
decreases-loop-row l = length l.self-inside.all
