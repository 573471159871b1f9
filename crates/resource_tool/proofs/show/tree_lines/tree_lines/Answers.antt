use Rattle.std.proofs.Common.{◌∙◌}
use Rattle.resource_tool.specs.TreeLines.{line_at, open_behind}
use Rattle.command_base.specs.cert_tree.Certificate.{node_of}
use Rattle.resource_tool.proofs.LineSteps.{LinesAllBut-next, LinesAllBut-end}
use Rattle.resource_tool.proofs.show.tree_lines.tree_lines.Goals as goal

pub loop-number-preserved : goal.loop-number-preserved
loop-number-preserved c =
    let number = c.loop-number.number in
    let paths = c.loop-number.paths in
    LinesAllBut-next _ _ _ _ _ c.args.nodes.now c.in_ok-line.line _ c.loop-number.invariant c.loop-number-test.true c.in_ok-push.ensures.items
    (c.in_ok-line.ensures.line ∙ (λ k. line_at number paths (node_of (c.index-nodes-number.is k))))
    (c.in_ok-line.ensures.paths ∙ (λ k. open_behind number paths (node_of (c.index-nodes-number.is k))))

pub returns : goal.returns
returns c = LinesAllBut-end _ _ _ _ c.args.nodes.now c.loop-number.invariant c.loop-number-test.false c.in_ok-push_missing.ensures
