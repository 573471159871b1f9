use Rattle.std.proofs.lemmas.List.{drop_all}
use Rattle.std.proofs.Common.{arith, map, ap}
use Rattle.contract_words.proofs.TextSteps.{PutsAllBut-next_at, PutsAllBut-done}
use Rattle.resource_tool.specs.TreeLinesSeen.{line_of}
use Rattle.resource_tool.specs.TreeText.{line_text}
use Rattle.resource_tool.proofs.show.line_text.write_lines.Goals as goal

pub loop-line-preserved : goal.loop-line-preserved
loop-line-preserved g c =
    PutsAllBut-next_at line_of (line_text c.args.form c.args.stack.now) _ _ _ _ c.args.lines.now c.loop-line.line-index c.line-item.result c.loop-line.invariant c.loop-line-test.true
    c.line-item.is c.in_ok-write_line.ensures

pub returns : goal.returns
returns g c = PutsAllBut-done _ _ _ _ _ c.loop-line.invariant (ap (map line_of) (drop_all c.loop-line.line-index c.args.lines.now (omega arith)))
