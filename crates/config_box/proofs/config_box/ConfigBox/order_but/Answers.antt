use Rattle.config_box.proofs.Lent.{lent-count}
use Rattle.config_box.proofs.config_box.ConfigBox.order_but.Goals as goal

pub order_but-requires-clause-sets : goal.order_but-requires-clause-sets
order_but-requires-clause-sets c = lent-count c.as_slice.result.now c.self.inside.sets.items c.as_slice.ensures.value c.self.invariant

pub order_but-requires-clause-others : goal.order_but-requires-clause-others
order_but-requires-clause-others c = lent-count c.as_slice-2.result.now c.other.inside.sets.items c.as_slice-2.ensures.value c.other.invariant
