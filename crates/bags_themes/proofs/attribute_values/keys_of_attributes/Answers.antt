use Rattle.std.proofs.Common.{sym, subst}
use Rattle.reference_resolver.specs.overlay_map.ContentKeys.{HoldsIds}
use Rattle.bags_themes.proofs.KeySteps.{attributes-next}
use Rattle.bags_themes.proofs.attribute_values.keys_of_attributes.Goals as goal

pub values-preserved : goal.values-preserved
values-preserved c =
    subst (λ attrs. HoldsIds c.add.new.self attrs) (attributes-next _ _ _ _ (sym c.in-Some.ensures.entry)) (c.add.ensures _ c.values.invariant)
