use Rattle.config_box.proofs.Lent.{lent-count}
use Rattle.config_box.proofs.config_box.ConfigBox.values.Goals as goal

pub values_of-requires : goal.values_of-requires
values_of-requires c = lent-count c.as_slice.result.now c.self.inside.sets.items c.as_slice.ensures.value c.self.invariant
