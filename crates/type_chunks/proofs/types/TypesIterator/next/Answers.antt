use Rattle.string_pool.specs.chunk_walk.Chunk.{chunk_of}
use Rattle.type_chunks.specs.TypePlaces.{IsKept}
use Rattle.type_chunks.proofs.PlacesSteps.{first-of, all-behind}
use Rattle.type_chunks.proofs.types.TypesIterator.next.Goals as goal

pub type_anew-requires : goal.type_anew-requires
type_anew-requires c = first-of (IsKept c.self.inside.owner (chunk_of c.self.inside.container)) _ _ _ c.in_ok-place.ensures.steps c.self.inside.kept

pub invariant_of-self-inside : goal.invariant_of-self-inside
invariant_of-self-inside c =
    (all-behind (IsKept c.self.inside.owner (chunk_of c.self.inside.container)) c.self.inside.places c.next.new.self c.next.result c.next.ensures.steps c.self.inside.kept, tt)
