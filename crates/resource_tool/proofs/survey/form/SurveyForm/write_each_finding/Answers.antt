use Rattle.resource_tool.proofs.AnySteps.{line-next_at}
use Rattle.resource_tool.proofs.survey.form.SurveyForm.write_each_finding.Goals as goal

pub loop-finding-preserved : goal.loop-finding-preserved
loop-finding-preserved g c = line-next_at _ _ _ _ _ _ _ c.loop-finding.invariant c.loop-finding-test.true c.in_ok-write_found.ensures
