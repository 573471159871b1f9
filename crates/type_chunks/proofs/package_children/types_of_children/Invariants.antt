use Rattle.std.proofs.Common.{◌+◌, ◌<◌, ◌^◌, [], length}
use Rattle.std.specs.Prelude.{All}
use Rattle.contract_words.specs.Sequences.{with_front}
use Rattle.contract_words.proofs.SequenceSteps.{ReadsKnowing}
use Rattle.string_pool.specs.chunk_walk.Chunk.{chunk_of}
use Rattle.string_pool.specs.chunk_walk.Chunks.{children_of, StandsIn}
use Rattle.type_chunks.specs.KnownSpecs.{Knows, SpecsStand}
use Rattle.type_chunks.specs.TypePlaces.{AreKept, rows_of_places}
use Rattle.type_chunks.specs.PackageChildren.{rows_of_child, rows_of_children}
use Rattle.type_chunks.proofs.package_children.types_of_children.Given as goal

-- the rows so far and those of the chunks that are left are all rows, and the type specs so far are known; types, type
-- specs and the chunks that are left stand in the package
abbrev pub invariant-loop-found : goal.invariant-loop-found
invariant-loop-found l = record {
  can : (goal.iterator-loop-found).can_next l.found-iterator;
  ends : (goal.iterator-loop-found).is_finite l.found-iterator;
  fits : length l.places.items + length l.found-iterator < 2 ^ 29;
  stand : All (StandsIn (chunk_of l.container)) l.found-iterator;
  specs : SpecsStand (chunk_of l.container) l.specs;
  kept : AreKept l.owner (chunk_of l.container) l.places.items;
  read : ReadsKnowing (λ specs before. Knows specs before) (rows_of_child l.owner) l.specs (rows_of_places l.owner (chunk_of l.container) l.places.items) (children_of (chunk_of l.container)) l.found-iterator
      (with_front [] (rows_of_children l.owner (chunk_of l.container)));
}
