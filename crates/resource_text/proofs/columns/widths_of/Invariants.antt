use Rattle.std.proofs.Common.{◌≡◌, drop, map}
use Rattle.std.specs.List.{fold}
use Rattle.resource_text.specs.Columns.{widths_of, widths_with}
use Rattle.resource_text.specs.ColumnsSeen.{line_of, widths_seen}
use Rattle.resource_text.proofs.columns.widths_of.Given as goal

-- with the lines that are left the widths are those of all
abbrev pub invariant-loop-line : goal.invariant-loop-line
invariant-loop-line l = fold widths_with (widths_seen l.widths) (map line_of (drop l.line-index l.lines)) ≡ widths_of (map line_of l.lines)
