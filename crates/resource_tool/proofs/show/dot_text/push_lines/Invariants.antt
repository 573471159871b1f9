use Rattle.std.proofs.Common.{drop, map}
use Rattle.std.specs.Prelude.{Some}
use Rattle.contract_words.proofs.TextSteps.{PutsAllBut}
use Rattle.resource_tool.specs.TreeLinesSeen.{line_of}
use Rattle.resource_tool.specs.DotText.{statements_text}
use Rattle.resource_tool.proofs.show.dot_text.push_lines.Given as goal

abbrev pub invariant-loop-line : goal.invariant-loop-line
invariant-loop-line l = PutsAllBut (statements_text l.form l.stack) (Some l.initial.text.items) (Some l.text.items) (map line_of l.lines) (map line_of (drop l.line-index l.lines))
