use Rattle.std.proofs.Common.{sym, ◌∙◌}
use Rattle.resource_tool.proofs.FindingsSteps.{noted-next, noted-end}
use Rattle.resource_tool.proofs.survey.rows.note_rows.Goals as goal

pub loop-row-preserved : goal.loop-row-preserved
loop-row-preserved c =
    let step = noted-next _ _ _ _ _ _ c.in-Some-row.ensures.steps c.note_row.ensures in
    record { can = tt; ends = tt; left = sym step ∙ c.loop-row.invariant.left }

pub returns : goal.returns
returns c = sym (noted-end _ _ _ c.in-None.ensures.steps.0) ∙ c.loop-row.invariant.left
