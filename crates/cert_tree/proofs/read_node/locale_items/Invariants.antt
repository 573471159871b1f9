use Rattle.std.proofs.Common.{map}
use Rattle.json_tokens.specs.Kind.{kind_seen}
use Rattle.json_input.proofs.EachSteps.{EachAllBut}
use Rattle.cert_tree.specs.NodeKinds.{locale_item_kind}
use Rattle.cert_tree.proofs.read_node.locale_items.Given as goal

abbrev pub invariant-loop-item : goal.invariant-loop-item
invariant-loop-item l = EachAllBut (locale_item_kind l.rule l.shape) l.locales.items l.item-index (map kind_seen l.items)
