use Rattle.std.proofs.Common.{ℕ, ◌+◌, ◌-◌, ◌/◌, sym, ◌∙◌, arith}
use Rattle.type_entries.specs.TypeChunk.{type_chunk_of}
use Rattle.type_entries.proofs.EntryOffsetSteps.{position_of-found, position_of-between, smaller-before, greater-behind}
use Rattle.type_entries.proofs.type_chunk.TypeChunk.sparse_position_of.Goals as goal

pub returns-then-found-index-clause-position : goal.returns-then-found-index-clause-position
returns-then-found-index-clause-position c =
    let so_far = c.loop-from in
    sym (position_of-found (type_chunk_of c.args.self.now) c.args.index _ c.requires (omega (arith, so_far.invariant.within, c.loop-from-test.true)) (sym c.index-found.ensures ∙ c.if-found-index.true))

pub loop-from-preserved-then-found-index-2 : goal.loop-from-preserved-then-found-index-2
loop-from-preserved-then-found-index-2 c =
    let so_far = c.loop-from.invariant in
    let middle : ℕ = c.loop-from.from + (c.loop-from.behind - c.loop-from.from) / 2 in
    record {
      within = so_far.within;
      before = smaller-before (type_chunk_of c.args.self.now) c.requires c.args.index middle (omega (arith, so_far.within, c.loop-from-test.true)) (omega (arith, c.index-found.ensures, c.if-found-index-2.true));
      behind = so_far.behind;
    }

pub loop-from-preserved : goal.loop-from-preserved
loop-from-preserved c =
    let so_far = c.loop-from.invariant in
    let middle : ℕ = c.loop-from.from + (c.loop-from.behind - c.loop-from.from) / 2 in
    record {
      within = omega (arith, so_far.within, c.loop-from-test.true);
      before = so_far.before;
      behind = greater-behind (type_chunk_of c.args.self.now) c.requires c.args.index middle (omega (arith, c.index-found.ensures, c.if-found-index-2.false, c.if-found-index.false));
    }

pub returns-clause-position : goal.returns-clause-position
returns-clause-position c =
    let so_far = c.loop-from.invariant in
    sym (position_of-between (type_chunk_of c.args.self.now) c.args.index c.loop-from.from c.loop-from.behind (omega (arith, c.loop-from-test.false)) so_far.before so_far.behind)
