use Rattle.std.proofs.Common.{List, map, subst}
use Rattle.std.proofs.lemmas.Result.{IfOk-weaker}
use Rattle.cert_tree.specs.declared.node.Node.{Node}
use Rattle.cert_tree.specs.Certificate.{node_of}
use Rattle.cert_tree.specs.res_value.Goal.{goal_seen}
use Rattle.cert_checker.specs.FirstFault.{goal_trace}
use Rattle.cert_checker.specs.OpenBoxes.{IsOutcome}
use Rattle.cert_checker.proofs.tree.check_tree.Goals as goal

pub returns : goal.returns
returns c =
    let trace = goal_trace c.args.stack.now (goal_seen c.args.tree.now.goal) in
    let sets = c.args.members.now in
    IfOk-weaker c.check_nodes-outcome.result _ _
    (λ outcome is. subst (λ (nodes : List Node). IsOutcome trace sets (map node_of nodes) outcome) c.as_slice.ensures.value (is trace sets c.in_ok-open_boxes.ensures))
    c.check_nodes-outcome.ensures
