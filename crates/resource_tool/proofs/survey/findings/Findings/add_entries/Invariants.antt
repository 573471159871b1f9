use Rattle.std.proofs.Common.{◌≡◌, ◌-◌}
use Rattle.std.specs.List.{flat_map, range_with_len}
use Rattle.chunk_walk.specs.Chunk.{chunk_of}
use Rattle.resource_tool.specs.Findings.{noted}
use Rattle.resource_tool.specs.Entries.{notes_of_entry, notes_of_entries}
use Rattle.resource_tool.proofs.survey.findings.Findings.add_entries.Given as goal

-- what the entries that are left have comes to the findings that all entries come to
abbrev pub invariant-loop-position : goal.invariant-loop-position
invariant-loop-position l =
    noted l.self (flat_map (notes_of_entry (chunk_of l.chunk)) (range_with_len l.position (l.count - l.position)))
    ≡ noted l.fn.self (notes_of_entries (chunk_of l.chunk))
