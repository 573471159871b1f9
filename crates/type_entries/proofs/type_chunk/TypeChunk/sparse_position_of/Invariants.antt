use Rattle.std.proofs.Common.{ℕ, ◌-◌, ◌<◌, ◌≤◌}
use Rattle.type_entries.specs.TypeChunk.{type_chunk_of}
use Rattle.type_entries.specs.EntryOffsets.{index_of}
use Rattle.type_entries.proofs.type_chunk.TypeChunk.sparse_position_of.Given as goal

-- the positions before those that are left have smaller indexes, and those behind them greater ones
abbrev pub invariant-loop-from : goal.invariant-loop-from
invariant-loop-from l = record {
  within : l.behind ≤ l.self.offset_count;
  before : (position : ℕ) → position < l.from → index_of (type_chunk_of l.self) position < l.index;
  behind : (position : ℕ) → l.behind ≤ position → position < l.self.offset_count → l.index < index_of (type_chunk_of l.self) position;
}

abbrev pub decreases-loop-from : goal.decreases-loop-from
decreases-loop-from l = l.behind - l.from
