use Rattle.std.proofs.Common.{◌∙◌, ◌<◌, sym, [], length, arith, length-drop}
use Rattle.std.proofs.lemmas.Grind.{common_steps}
use Rattle.chunk_walk.proofs.ChunksSteps.{chunks_of-end}
use Rattle.chunk_walk.proofs.chunks.Chunks.new.Goals as goal

pub returns-in-None : goal.returns-in-None
returns-in-None c =
    let beyond : length c.args.bytes.now < c.args.from = grind (arith, common_steps) in
    chunks_of-end 0 [] (omega arith) ∙ sym (chunks_of-end c.args.from _ (omega (arith, length-drop c.args.from c.args.bytes.now)))
