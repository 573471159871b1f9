use Rattle.std.proofs.Common.{◌-◌, ◌<◌, sym, ◌∙◌, arith}
use Rattle.type_entries.specs.TypeChunk.{type_chunk_of}
use Rattle.type_entries.proofs.EntryOffsetSteps.{rise-stops, rise-next}
use Rattle.type_entries.proofs.type_chunk.TypeChunk.indexes_rise.Goals as goal

pub returns-then-index : goal.returns-then-index
returns-then-index c =
    let within : c.loop-position.position < c.args.self.now.offset_count - 1 = omega (arith, c.loop-position-test.true, c.saturating_sub-with_next.ensures) in
    sym (rise-stops (type_chunk_of c.args.self.now) c.loop-position.position within (omega (arith, c.if-index.true, c.index.ensures, c.index-in-loop-position.ensures))) ∙ c.loop-position.invariant

pub loop-position-preserved : goal.loop-position-preserved
loop-position-preserved c =
    let within : c.loop-position.position < c.args.self.now.offset_count - 1 = omega (arith, c.loop-position-test.true, c.saturating_sub-with_next.ensures) in
    sym (rise-next (type_chunk_of c.args.self.now) c.loop-position.position within (omega (arith, c.if-index.false, c.index.ensures, c.index-in-loop-position.ensures))) ∙ c.loop-position.invariant
