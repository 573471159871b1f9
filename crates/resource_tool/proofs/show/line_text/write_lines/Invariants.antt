use Rattle.std.proofs.Common.{drop, map}
use Rattle.contract_words.proofs.TextSteps.{PutsAllBut}
use Rattle.resource_tool.specs.TreeLinesSeen.{line_of}
use Rattle.resource_tool.specs.TreeText.{line_text}
use Rattle.resource_tool.proofs.show.line_text.write_lines.Given as goal

abbrev pub invariant-loop-line : goal.invariant-loop-line
invariant-loop-line g l = PutsAllBut (line_text l.form l.stack) (g.W.Write.contents l.fn.out) (g.W.Write.contents l.out) (map line_of l.lines) (map line_of (drop l.line-index l.lines))
