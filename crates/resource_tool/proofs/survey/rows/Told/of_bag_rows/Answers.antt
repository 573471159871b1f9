use Rattle.resource_tool.proofs.AnySteps.{FindsAllBut-next}
use Rattle.resource_tool.proofs.survey.rows.Told.of_bag_rows.Goals as goal

pub loop-row-preserved : goal.loop-row-preserved
loop-row-preserved c = record {
  reference = FindsAllBut-next _ _ _ _ _ _ _ _ c.loop-row.invariant.reference c.in-Some.ensures.steps c.of_value.ensures.reference c.or-told.ensures.reference;
  attribute = FindsAllBut-next _ _ _ _ _ _ _ _ c.loop-row.invariant.attribute c.in-Some.ensures.steps c.of_value.ensures.attribute c.or-told.ensures.attribute;
  broken = FindsAllBut-next _ _ _ _ _ _ _ _ c.loop-row.invariant.broken c.in-Some.ensures.steps c.of_value.ensures.broken c.or-told.ensures.broken;
}
