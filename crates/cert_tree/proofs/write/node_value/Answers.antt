use Rattle.std.proofs.Common.{sym, subst, arith}
use Rattle.cert_tree.specs.declared.node.Node.{Node}
use Rattle.cert_tree.specs.Certificate.{node_of}
use Rattle.cert_tree.specs.ReadsBack.{NodeReadsBack}
use Rattle.cert_tree.proofs.ReadsBackLemmas.{in_any_case, value-back, bag-back}
use Rattle.cert_tree.proofs.write.node_value.Goals as goal

pub returns-in-Value-clause-reads_back : goal.returns-in-Value-clause-reads_back
returns-in-Value-clause-reads_back c =
    in_any_case _ (subst (λ (node : Node). NodeReadsBack (node_of node)) (sym c.in-Value.is) (value-back c.in-Value.layer c.in-Value.value (omega arith) (omega arith)))

pub returns-in_ok-id-in-Bag-clause-reads_back : goal.returns-in_ok-id-in-Bag-clause-reads_back
returns-in_ok-id-in-Bag-clause-reads_back c =
    in_any_case _ (subst (λ (node : Node). NodeReadsBack (node_of node)) (sym c.in-Bag.is) (bag-back c.in-Bag.id c.in_ok-id-in-Bag.ensures.reads_back))
