use Rattle.std.proofs.lemmas.Result.{IfOk-weaker}
use Rattle.stack_diff.proofs.Both.{whole-open}
use Rattle.stack_diff.proofs.tree.grow_tree.Goals as goal

pub grow_nodes-grown-requires : goal.grow_nodes-grown-requires
grow_nodes-grown-requires c = whole-open c.args.pair c.args.members.now _ c.in_ok-open_boxes.ensures

pub returns : goal.returns
returns c = IfOk-weaker c.grow_nodes-grown.result _ _ (λ grown is. is c.args.members.now c.in_ok-open_boxes.ensures) c.grow_nodes-grown.ensures
