use Rattle.std.proofs.Common.{drop, map}
use Rattle.contract_words.proofs.TextSteps.{PutsAllBut}
use Rattle.resource_text.specs.Columns.{line_text}
use Rattle.resource_text.specs.ColumnsSeen.{line_of, widths_seen}
use Rattle.resource_text.proofs.columns.write_lines.Given as goal

-- all lines were written but those that are left
abbrev pub invariant-loop-line : goal.invariant-loop-line
invariant-loop-line g l =
    PutsAllBut (line_text (widths_seen l.widths)) (g.W.Write.contents l.fn.out) (g.W.Write.contents l.out) (map line_of l.lines) (map line_of (drop l.line-index l.lines))
