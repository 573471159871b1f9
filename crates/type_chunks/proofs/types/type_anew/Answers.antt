use Rattle.std.proofs.Common.{sym, ◌∙◌}
use Rattle.string_pool.specs.chunk_walk.Chunk.{chunk_of}
use Rattle.type_chunks.proofs.PlacesSteps.{type_at-found}
use Rattle.type_chunks.proofs.types.type_anew.Goals as goal

pub invariant_of-result : goal.invariant_of-result
invariant_of-result c =
    let at = type_at-found c.args.owner (chunk_of c.args.container.now) c.args.place _ _ c.chunk_anew-chunk.ensures c.spec_anew-spec.ensures in
    record { checked = (c.requires.3 _ (at ∙ sym c.in-Ok.ensures.value)).1 }
