use Rattle.std.proofs.Common.{◌+◌, length, ap, ◌∙◌, ◌≡◌, arith, length-append, List, ℕ}
use Rattle.chunk_walk.proofs.ChunksSteps.{length-chunks_of}
use Rattle.chunk_walk.specs.Chunk.{chunk_of}
use Rattle.chunk_walk.proofs.StandSteps.{children-stand}
use Rattle.chunk_walk.proofs.chunk.Chunk.children.Goals as goal

pub invariant_of-result : goal.invariant_of-result
invariant_of-result c =
    let sizes : length c.args.self.now.whole.now ≡ length c.args.self.now.header.now + length c.args.self.now.body.now =
    ap (λ (t : List ℕ). length t) c.args.self.now.parts ∙ length-append c.args.self.now.header.now c.args.self.now.body.now in
    omega (arith, c.args.self.now.in_range)

pub returns-clause-few : goal.returns-clause-few
returns-clause-few c =
    let sizes : length c.args.self.now.whole.now ≡ length c.args.self.now.header.now + length c.args.self.now.body.now =
    ap (λ (t : List ℕ). length t) c.args.self.now.parts ∙ length-append c.args.self.now.header.now c.args.self.now.body.now in
    omega (arith, c.args.self.now.small, length-chunks_of (c.args.self.now.place + length c.args.self.now.header.now) c.args.self.now.body.now)

pub returns-clause-stand : goal.returns-clause-stand
returns-clause-stand c = children-stand (chunk_of c.args.self.now) c.args.self.now.parts
