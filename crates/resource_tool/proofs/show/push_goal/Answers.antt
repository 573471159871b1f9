use Rattle.std.proofs.Common.{map, ap, ◌∙◌}
use Rattle.command_base.specs.cert_tree.declared.node.Node.{Node}
use Rattle.std.proofs.Common.{List}
use Rattle.command_base.specs.cert_tree.Certificate.{node_of}
use Rattle.resource_tool.specs.TreeLines.{tree_lines}
use Rattle.resource_tool.specs.TreeLinesSeen.{line_of}
use Rattle.resource_tool.specs.declared.show.tree_lines.TreeLine.{TreeLine}
use Rattle.resource_tool.proofs.show.push_goal.Goals as goal

pub write_goal-requires : goal.write_goal-requires
write_goal-requires c =
    ap (λ (lines : List TreeLine). map line_of lines) c.deref.ensures.value
    ∙ c.in_ok-lines.ensures
    ∙ ap (λ (nodes : List Node). tree_lines (map node_of nodes)) c.as_slice.ensures.value
