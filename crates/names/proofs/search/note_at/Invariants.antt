use Rattle.std.proofs.Common.{take}
use Rattle.overlay_map.specs.type_chunks.Row.{row_of}
use Rattle.names.specs.Sought.{IsNotedAt}
use Rattle.names.proofs.search.note_at.Given as goal

-- the row was noted at the places so far
abbrev pub invariant-loop-place : goal.invariant-loop-place
invariant-loop-place l = IsNotedAt l.table (row_of l.row) (take l.place-index l.places) l.fn.sought l.sought
