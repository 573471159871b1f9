use Rattle.std.proofs.Common.{List, map, ap}
use Rattle.std.proofs.lemmas.List.{drop_all}
use Rattle.resource_tool.specs.declared.show.tree_lines.TreeLine.{TreeLine}
use Rattle.resource_tool.specs.TreeLinesSeen.{line_of}
use Rattle.resource_tool.specs.DotText.{statements_text}
use Rattle.contract_words.proofs.TextSteps.{PutsAllBut-done, PutsAllBut-next_at}
use Rattle.resource_tool.proofs.show.dot_text.push_lines.Goals as goal

pub returns : goal.returns
returns c =
    PutsAllBut-done (statements_text c.args.form c.args.stack.now) _ _ _ _ c.loop-line.invariant
    (ap (λ (lines : List TreeLine). map line_of lines) (drop_all c.loop-line.line-index c.args.lines.now c.loop-line-test.false))

pub loop-line-preserved : goal.loop-line-preserved
loop-line-preserved c =
    PutsAllBut-next_at line_of (statements_text c.args.form c.args.stack.now) _ _ _ _ c.args.lines.now c.loop-line.line-index c.line-item.result c.loop-line.invariant c.loop-line-test.true
    c.line-item.is c.in_ok-push_line.ensures
