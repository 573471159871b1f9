use Rattle.std.proofs.Common.{sym, arith}
use Rattle.type_entries.specs.TypeChunk.{type_chunk_of}
use Rattle.type_entries.proofs.EntryOffsetSteps.{index_of-each, position_of-found, position_of-none}
use Rattle.type_entries.proofs.type_chunk.TypeChunk.position_of.Goals as goal

pub returns-then-index-self-clause-position : goal.returns-then-index-self-clause-position
returns-then-index-self-clause-position c =
    let chunk = type_chunk_of c.args.self.now in
    sym (position_of-found chunk c.args.index c.args.index c.requires c.if-index-self.true (index_of-each chunk c.args.index c.if-self.false))

pub returns-else-index-self-clause-position : goal.returns-else-index-self-clause-position
returns-else-index-self-clause-position c =
    let chunk = type_chunk_of c.args.self.now in
    sym (position_of-none chunk c.args.index (λ position below e. omega (arith, e, below, index_of-each chunk position c.if-self.false, c.if-index-self.false)))
