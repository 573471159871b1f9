use Rattle.cert_tree.specs.Certificate.{node_of}
use Rattle.cert_tree.specs.ReadsBack.{NodeReadsBack}
use Rattle.cert_tree.specs.WrittenJson.{node_data}
use Rattle.cert_tree.proofs.WrittenSteps.{WrittenUpTo}
use Rattle.cert_tree.proofs.write.node_values.Given as goal

abbrev pub invariant-loop-node : goal.invariant-loop-node
invariant-loop-node l = WrittenUpTo (λ n. node_data (node_of n)) (λ n. NodeReadsBack (node_of n)) l.values.items l.node-index l.nodes
