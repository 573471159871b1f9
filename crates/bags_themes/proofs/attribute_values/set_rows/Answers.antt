use Rattle.std.proofs.Common.{rules, ◌∙◌}
use Rattle.bags_themes.proofs.ThemeSteps.{AppliesRows-next}
use Rattle.bags_themes.proofs.attribute_values.set_rows.Goals as goal

pub loop-row-preserved : goal.loop-row-preserved
loop-row-preserved c = record {
  applied =
      AppliesRows-next c.args.force c.args.rows.now c.loop-row.row-index _ _ _ _ c.loop-row-test.true (search rules) c.loop-row.invariant.applied c.in_ok-set_row.ensures.applied;
  hasher = c.set_row.ensures.hasher ∙ c.loop-row.invariant.hasher;
}
