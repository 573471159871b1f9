use Rattle.cert_tree.specs.Certificate.{node_of}
use Rattle.cert_tree.specs.ReadsBack.{NodeReadsBack}
use Rattle.cert_tree.specs.WrittenJson.{node_data}
use Rattle.cert_tree.proofs.WrittenSteps.{WrittenUpTo-pushed, WrittenUpTo-same_seen, WrittenUpTo-each_seen}
use Rattle.cert_tree.proofs.write.node_values.Goals as goal

pub loop-node-preserved : goal.loop-node-preserved
loop-node-preserved c =
    WrittenUpTo-pushed (λ n. node_data (node_of n)) (λ n. NodeReadsBack (node_of n)) c.loop-node.values.items c.push.new.self.items c.loop-node.node-index c.args.nodes.now _ _ c.in_ok-value.value
    c.loop-node.invariant c.loop-node-test.true c.in_ok-push.ensures.items c.node-item.is c.in_ok-value.ensures.data c.in_ok-value.ensures.reads_back

pub returns-clause-data : goal.returns-clause-data
returns-clause-data c = WrittenUpTo-same_seen node_data node_of NodeReadsBack c.loop-node.values.items c.loop-node.node-index c.args.nodes.now c.loop-node.invariant c.loop-node-test.false

pub returns-clause-reads_back : goal.returns-clause-reads_back
returns-clause-reads_back c = WrittenUpTo-each_seen node_data node_of NodeReadsBack c.loop-node.values.items c.loop-node.node-index c.args.nodes.now c.loop-node.invariant c.loop-node-test.false
