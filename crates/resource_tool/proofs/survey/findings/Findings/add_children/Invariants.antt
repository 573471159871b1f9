use Rattle.std.proofs.Common.{◌≡◌}
use Rattle.std.specs.List.{flat_map}
use Rattle.chunk_walk.specs.Chunk.{chunk_of}
use Rattle.chunk_walk.specs.Chunks.{children_of}
use Rattle.resource_tool.specs.Findings.{noted}
use Rattle.resource_tool.specs.Chunks.{notes_of_child}
use Rattle.resource_tool.proofs.survey.findings.Findings.add_children.Given as goal

-- what the chunks that are left have comes to the findings that all chunks come to
abbrev pub invariant-loop-child : goal.invariant-loop-child
invariant-loop-child l = record {
  can : (goal.iterator-loop-child).can_next l.child-iterator;
  ends : (goal.iterator-loop-child).is_finite l.child-iterator;
  left : noted l.self (flat_map notes_of_child l.child-iterator) ≡ noted l.fn.self (flat_map notes_of_child (children_of (chunk_of l.table)));
}
