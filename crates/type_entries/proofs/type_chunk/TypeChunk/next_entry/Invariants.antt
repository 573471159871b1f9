use Rattle.std.proofs.Common.{◌-◌, ◌≤◌}
use Rattle.type_entries.specs.TypeChunk.{type_chunk_of}
use Rattle.type_entries.specs.Entries.{AreEmpty}
use Rattle.type_entries.proofs.type_chunk.TypeChunk.next_entry.Given as goal

-- no entry was passed over
abbrev pub invariant-loop-position : goal.invariant-loop-position
invariant-loop-position l = record {
  behind : l.from ≤ l.position;
  passed : AreEmpty (type_chunk_of l.self) l.from l.position;
}

abbrev pub decreases-loop-position : goal.decreases-loop-position
decreases-loop-position l = l.self.offset_count - l.position
