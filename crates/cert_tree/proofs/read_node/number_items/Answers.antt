use Rattle.std.proofs.Common.{sym, ◌∙◌}
use Rattle.std.proofs.lemmas.Result.{err_from_is_err_and}
use Rattle.json_tokens.specs.Kind.{kind_seen}
use Rattle.json_input.proofs.EachSteps.{EachAllBut-stops_item}
use Rattle.cert_tree.specs.NodeKinds.{number_item_kind}
use Rattle.cert_tree.proofs.read_node.number_items.Goals as goal

pub returns-in_err-number : goal.returns-in_err-number
returns-in_err-number c =
    let p = err_from_is_err_and c.from_residual-in_err-number.result c.from_residual-in_err-number.ensures.1 in
    let is = sym c.number_item.ensures ∙ c.in_err-number.was in
    rw (p.1, p.2) (λ other. EachAllBut-stops_item (number_item_kind c.args.shape) kind_seen _ _ c.args.items.now _ _ c.loop-item.invariant c.loop-item-test.true is)
