use Rattle.resource_tool.specs.SurveyOutput.{survey_output_by}
use Rattle.resource_tool.proofs.survey.survey_by.Goals as goal

pub returns-in-Ok : goal.returns-in-Ok
unfolding survey_output_by
returns-in-Ok g c = rw c.in-Ok.ensures.0 c.print_answer.ensures
