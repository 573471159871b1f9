use Rattle.std.proofs.Common.{◌+◌, ◌<◌, ◌^◌, [], length}
use Rattle.contract_words.specs.Sequences.{with_front}
use Rattle.contract_words.proofs.SequenceSteps.{ReadsKnowing}
use Rattle.type_chunks.specs.chunk_walk.Chunk.{chunk_of}
use Rattle.type_chunks.specs.chunk_walk.Chunks.{children_of}
use Rattle.overlay_map.specs.KnownChildren.{KnowsChildren}
use Rattle.overlay_map.specs.Package.{packages_of}
use Rattle.overlay_map.specs.Table.{packages_of_child, packages_of_children}
use Rattle.overlay_map.proofs.table.Table.read_children.Given as goal

-- the packages so far and those of the chunks that are left are all, and the chunks so far are known
abbrev pub invariant-loop-found : goal.invariant-loop-found
invariant-loop-found l = record {
  can : (goal.iterator-loop-found).can_next l.found-iterator;
  ends : (goal.iterator-loop-found).is_finite l.found-iterator;
  few : l.known.packages + length l.found-iterator < 2 ^ 60;
  fits : length l.packages.items + length l.found-iterator < 2 ^ 29;
  read : ReadsKnowing (λ known before. KnowsChildren known before) packages_of_child l.known (packages_of l.packages.items) (children_of (chunk_of l.table)) l.found-iterator
      (with_front [] (packages_of_children (chunk_of l.table)));
}
