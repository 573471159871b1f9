use Rattle.std.proofs.Common.{sym, ◌∙◌}
use Rattle.bags_themes.proofs.KeySteps.{values-next}
use Rattle.bags_themes.proofs.attribute_values.with_keys.Goals as goal

pub values-preserved : goal.values-preserved
values-preserved c = record {
  same = c.in_ok-insert.ensures.entries ∙ values-next _ _ _ _ c.values.same c.len-place-end.ensures.unique (sym c.in-Some.ensures.entry) c.values.invariant.same;
  keyed = c.insert.ensures.hasher ∙ c.values.invariant.keyed;
}
