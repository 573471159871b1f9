use Rattle.contract_words.proofs.TextSteps.{PutsAllBut-next_at}
use Rattle.resource_text.specs.Columns.{line_text}
use Rattle.resource_text.specs.ColumnsSeen.{line_of, widths_seen}
use Rattle.resource_text.proofs.columns.write_lines.Goals as goal

pub loop-line-preserved : goal.loop-line-preserved
loop-line-preserved g c =
    PutsAllBut-next_at line_of (line_text (widths_seen c.args.widths)) _ _ _ _ c.args.lines.now c.loop-line.line-index c.line-item.result c.loop-line.invariant c.loop-line-test.true
    c.line-item.is c.in_ok-write_line.ensures
