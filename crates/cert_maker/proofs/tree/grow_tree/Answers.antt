use Rattle.std.proofs.lemmas.Result.{IfOk-weaker}
use Rattle.cert_checker.specs.res_value.Goal.{goal_seen}
use Rattle.cert_maker.proofs.tree.grow_tree.Goals as goal

pub returns : goal.returns
returns c =
    IfOk-weaker c.grow_nodes-grown.result _ _ (λ grown is. is (goal_seen c.args.goal.now) c.args.members.now c.in_ok-open_boxes.ensures) c.grow_nodes-grown.ensures
