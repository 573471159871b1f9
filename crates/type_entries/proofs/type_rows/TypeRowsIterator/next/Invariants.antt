use Rattle.std.proofs.Common.{◌≡◌, ◌-◌}
use Rattle.type_entries.specs.TypeChunk.{type_chunk_of}
use Rattle.type_entries.specs.Entries.{rows_from}
use Rattle.type_entries.proofs.type_rows.TypeRowsIterator.next.Given as goal

-- only entries that are no rows were passed over
abbrev pub invariant-loop-position : goal.invariant-loop-position
invariant-loop-position l = rows_from (type_chunk_of l.self-inside.of.chunk) l.self-inside.position ≡ l.fn.self

abbrev pub decreases-loop-position : goal.decreases-loop-position
decreases-loop-position l = l.self-inside.of.chunk.offset_count - l.self-inside.position
