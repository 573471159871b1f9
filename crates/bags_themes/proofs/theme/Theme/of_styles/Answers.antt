use Rattle.std.proofs.Common.{List, subst, ◌∙◌}
use Rattle.bag_rows.specs.declared.bag_row.BagRow.{BagRow}
use Rattle.bags_themes.specs.Theme.{AppliesRows}
use Rattle.bags_themes.proofs.StyleSteps.{styles_applied}
use Rattle.bags_themes.proofs.theme.Theme.of_styles.Goals as goal

pub returns : goal.returns
returns c =
    let old = c.unset.inside.values.entries in
    let new = c.in_ok-values.values.entries in
    styles_applied _ _ _ _ c.in_ok-rows.rows.items old new c.in_ok-rows.ensures (c.unset.view_is ∙ c.new-unset.ensures)
    (subst (λ (rows : List BagRow). AppliesRows c.args.force rows old new) c.deref.ensures.value c.in_ok-values.ensures.applied)
