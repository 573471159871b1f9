use Rattle.std.proofs.Common.{◌≡◌, ◌++◌, map, drop}
use Rattle.resource_text.specs.ColumnsSeen.{line_of}
use Rattle.resource_text.specs.ExplainNotation.{shown_lines}
use Rattle.resource_text.specs.TracedSeen.{traced_of}
use Rattle.resource_text.proofs.explanation.shown_lines.Given as goal

-- the lines so far, and those of the candidates that are left, are all lines
abbrev pub invariant-loop-traced : goal.invariant-loop-traced
invariant-loop-traced l =
    map line_of l.lines.items ++ shown_lines l.naming l.all (map traced_of (drop l.traced-index l.candidates)) ≡ shown_lines l.naming l.all (map traced_of l.candidates)
