use Rattle.std.proofs.Common.{List, sym, subst}
use Rattle.string_pool.specs.chunk_walk.Chunk.{chunk_of}
use Rattle.type_chunks.specs.declared.type_place.TypePlace.{TypePlace}
use Rattle.type_chunks.specs.TypePlaces.{AreKept}
use Rattle.type_chunks.proofs.types.Types.new.Goals as goal

pub invariant_of-result : goal.invariant_of-result
invariant_of-result c = (subst (λ (places : List TypePlace). AreKept c.args.owner (chunk_of c.args.container) places) (sym c.iter.ensures.rest) c.requires, tt)
