use Rattle.std.proofs.Common.{◌-◌, ◌≤◌, map, length}
use Rattle.cert_tree.specs.Certificate.{node_of}
use Rattle.cert_tree.specs.CertJson.{node_after}
use Rattle.cert_tree.proofs.NodesWalked.{ReadOnWalked}
use Rattle.cert_tree.proofs.node_list.read_nodes.Given as goal

abbrev pub invariant-items : goal.invariant-items
invariant-items l = record {
  read : ReadOnWalked (node_after l.rule l.goal) (l.depth - 1) l.initial.tokens (map node_of l.nodes.items) l.tokens;
  few : length l.nodes.items ≤ l.room;
  shorter : length l.tokens ≤ length l.initial.tokens;
}

abbrev pub decreases-items : goal.decreases-items
decreases-items l = length l.tokens
