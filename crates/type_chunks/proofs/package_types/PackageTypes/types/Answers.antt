use Rattle.std.proofs.Common.{List, sym, subst}
use Rattle.string_pool.specs.chunk_walk.Chunk.{chunk_of}
use Rattle.type_chunks.specs.declared.type_place.TypePlace.{TypePlace}
use Rattle.type_chunks.specs.TypePlaces.{AreKept}
use Rattle.type_chunks.proofs.package_types.PackageTypes.types.Goals as goal

pub new-requires : goal.new-requires
new-requires c =
    subst (λ (places : List TypePlace). AreKept c.args.self.now.owner (chunk_of c.args.self.now.container) places) (sym c.deref.ensures.value) c.args.self.now.kept
