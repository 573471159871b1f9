use Rattle.std.proofs.Common.{refl}
use Rattle.type_entries.specs.TypeChunk.{type_chunk_of}
use Rattle.type_entries.proofs.EntrySteps.{bag-fits, bag-rows}
use Rattle.type_entries.proofs.type_chunk.TypeChunk.bag.Goals as goal

pub within-rows-requires : goal.within-rows-requires
within-rows-requires c =
    let fits = bag-fits (type_chunk_of c.args.self.now) c.args.at c.args.behind c.requires.checked in
    rw (c.u32_within-count.ensures, c.split_at.ensures.back) fits

pub returns : goal.returns
returns c =
    let rows = bag-rows (type_chunk_of c.args.self.now) c.args.at c.args.behind c.requires.checked in
    rw (rows, c.within-rows.ensures, c.u32_within-count.ensures, c.u32_within.ensures, c.split_at.ensures.back) refl
