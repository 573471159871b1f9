use Rattle.std.proofs.Common.{◌≡◌, ◌-◌, ◌≤◌}
use Rattle.type_entries.specs.TypeChunk.{type_chunk_of}
use Rattle.type_entries.specs.Entries.{AreRead}
use Rattle.type_entries.proofs.type_check.check_from.Given as goal

-- the entries so far have no fault
abbrev pub invariant-loop-position : goal.invariant-loop-position
invariant-loop-position l = record {
  behind : l.from ≤ l.behind;
  bags : l.bags.whole.now ≡ l.chunk.whole.now;
  read : AreRead (type_chunk_of l.chunk) l.behind;
}

abbrev pub decreases-loop-position : goal.decreases-loop-position
decreases-loop-position l = l.chunk.offset_count - l.behind
