-- How contracts see the lines of a tree.
use Rattle.command_base.specs.cert_tree.Certificate.{node_of}
use Rattle.resource_tool.specs.declared.show.tree_lines.TreeLine.{TreeLine}
use Rattle.resource_tool.specs.declared.show.tree_lines.TreeLine.TheVariants as of_line
use Rattle.resource_tool.specs.TreeLines.{LineOf, NodeAt, Unreached, Missing}

-- by their content, not their address
abbrev pub line_of : TreeLine → LineOf
line_of (of_line.NodeAt number path node) = NodeAt number path (node_of node.now)
line_of (of_line.Unreached number node) = Unreached number (node_of node.now)
line_of (of_line.Missing path) = Missing path
