use Rattle.std.proofs.Common.{sym, ◌∙◌, arith}
use Rattle.std.proofs.lemmas.Grind.{common_steps}
use Rattle.chunk_walk.specs.Chunk.{chunk_of}
use Rattle.chunk_walk.proofs.ChunksSteps.{chunks_of-ok}
use Rattle.chunk_walk.proofs.chunks.ChunksIterator.next.Goals as goal

pub returns-in-Ok-clause-steps : goal.returns-in-Ok-clause-steps
returns-in-Ok-clause-steps c =
    rw c.split_at.ensures.back (sym c.self.view_is ∙ chunks_of-ok c.self.inside.place c.self.inside.left.now (chunk_of c.in-Ok.chunk) (omega arith) c.in-Ok.ensures.chunk)

pub returns-in-Ok-clause-goes : goal.returns-in-Ok-clause-goes
returns-in-Ok-clause-goes c =
    let e = sym c.self.view_is ∙ chunks_of-ok c.self.inside.place c.self.inside.left.now (chunk_of c.in-Ok.chunk) (omega arith) c.in-Ok.ensures.chunk in
    grind (arith, common_steps, e, c.split_at.ensures.back)
