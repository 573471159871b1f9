use Rattle.std.proofs.Common.{◌≡◌}
use Rattle.type_entries.specs.TypeChunk.{type_chunk_of}
use Rattle.type_entries.specs.EntryOffsets.{indexes_rise}
use Rattle.type_entries.proofs.EntryOffsetSteps.{rise_from}
use Rattle.type_entries.proofs.type_chunk.TypeChunk.indexes_rise.Given as goal

-- of the positions so far each has a smaller index than the next
abbrev pub invariant-loop-position : goal.invariant-loop-position
invariant-loop-position l = rise_from (type_chunk_of l.self) l.position ≡ indexes_rise (type_chunk_of l.self)
