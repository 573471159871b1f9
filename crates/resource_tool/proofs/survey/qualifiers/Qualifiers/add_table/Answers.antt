use Rattle.std.proofs.Common.{sym, ◌∙◌}
use Rattle.resource_tool.proofs.QualifierSteps.{counted-next, counted-end}
use Rattle.resource_tool.specs.Counting.{said_by}
use Rattle.resource_tool.proofs.survey.qualifiers.Qualifiers.add_table.Goals as goal

pub loop-row-preserved : goal.loop-row-preserved
loop-row-preserved c =
    let step = counted-next _ _ said_by _ _ _ c.in-Some.ensures.steps c.add_row.ensures in
    record { can = tt; ends = tt; left = sym step ∙ c.loop-row.invariant.left }

pub returns : goal.returns
returns c = sym (counted-end _ _ _ c.in-None.ensures.steps.0) ∙ c.loop-row.invariant.left
