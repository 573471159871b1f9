-- As many nodes as words can ask for are as many as a certificate can have that is read again.
use Rattle.std.proofs.Common.{◌≡◌, refl}
use Rattle.resource_tool.specs.cert_tree.Certificate.{most_nodes as most_nodes_read}
use Rattle.restool.specs.CommandLine.{most_nodes as most_nodes_asked}

pub node_limits-agree : most_nodes_asked ≡ most_nodes_read
node_limits-agree = refl
