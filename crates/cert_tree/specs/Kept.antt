-- How contracts within this crate see what is read of tokens: what a value means, or its fault, which is kept while the
-- rest of the text is read.
use Rattle.std.specs.Prelude.{ℕ, List, map, length, nat_le, if◌then◌else◌, Result, Ok, Err}
use Rattle.std.specs.Global.{Vec}
use Rattle.serde_json.specs.Data.{Data}
use Rattle.cert_tree.specs.declared.node.Node.{Node}
use Rattle.cert_tree.specs.declared.cert_fault.CertFault.{CertFault}
use Rattle.cert_tree.specs.declared.cert_fault.CertFault.TheVariants.{TooManyNodes}
use Rattle.cert_tree.specs.Certificate.{NodeOf, node_of}

-- a list of nodes
abbrev pub nodes_kept : Result (Vec Node) CertFault → Result (List NodeOf) CertFault
nodes_kept (Ok nodes) = Ok (map node_of nodes.items)
nodes_kept (Err fault) = Err fault

-- the fault of nodes of which one has this fault, and these stand behind it, where so many can stand there
abbrev pub fault_unless_more : ℕ → CertFault → List Data → CertFault
fault_unless_more most fault nodes = if nat_le (length nodes) most then fault else TooManyNodes

-- a node
abbrev pub node_seen : Result Node CertFault → Result NodeOf CertFault
node_seen (Ok node) = Ok (node_of node)
node_seen (Err fault) = Err fault
