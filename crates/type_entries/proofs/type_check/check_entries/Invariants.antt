use Rattle.std.proofs.Common.{◌≡◌, ◌-◌}
use Rattle.type_entries.specs.TypeChunk.{type_chunk_of}
use Rattle.type_entries.specs.Entries.{AreRead}
use Rattle.type_entries.proofs.type_check.check_entries.Given as goal

-- the entries so far have no fault
abbrev pub invariant-loop-from : goal.invariant-loop-from
invariant-loop-from l = record {
  bags : l.bags.whole.now ≡ l.chunk.whole.now;
  read : AreRead (type_chunk_of l.chunk) l.from;
}

abbrev pub decreases-loop-from : goal.decreases-loop-from
decreases-loop-from l = l.chunk.offset_count - l.from
