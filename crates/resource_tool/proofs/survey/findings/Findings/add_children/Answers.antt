use Rattle.std.proofs.Common.{sym, ◌∙◌}
use Rattle.resource_tool.proofs.FindingsSteps.{noted-next, noted-end}
use Rattle.resource_tool.specs.Chunks.{notes_of_child}
use Rattle.resource_tool.proofs.survey.findings.Findings.add_children.Goals as goal

pub loop-child-preserved : goal.loop-child-preserved
loop-child-preserved c =
    let step = noted-next _ _ notes_of_child _ _ _ c.in-Some.ensures.steps c.add_child.ensures in
    record { can = tt; ends = tt; left = sym step ∙ c.loop-child.invariant.left }

pub returns : goal.returns
returns c = sym (noted-end _ _ _ c.in-None.ensures.steps.0) ∙ c.loop-child.invariant.left
