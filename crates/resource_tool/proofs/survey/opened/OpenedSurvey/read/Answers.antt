use Rattle.std.proofs.Common.{refl}
use Rattle.std.proofs.lemmas.Result.{err_from_is_err_and}
use Rattle.resource_tool.specs.SurveyOutput.{survey_inputs_by}
use Rattle.resource_tool.proofs.survey.opened.OpenedSurvey.read.Goals as goal

pub returns-in_err-stack : goal.returns-in_err-stack
unfolding survey_inputs_by
returns-in_err-stack c =
    let p = err_from_is_err_and c.from_residual.result c.from_residual.ensures.1 in
    rw (p.1, p.2) (λ told. rw (c.in_err-stack.ensures.value told) refl, c.in_err-stack.ensures.of_input, tt)

pub returns-in_err-members : goal.returns-in_err-members
unfolding survey_inputs_by
returns-in_err-members c =
    let p = err_from_is_err_and c.from_residual-in_err-members.result c.from_residual-in_err-members.ensures.1 in
    rw (p.1, p.2) (λ told. rw (c.in_ok-stack.ensures.value, c.in_err-members.ensures.0 told) refl, c.in_err-members.ensures.1, tt)

pub returns : goal.returns
unfolding survey_inputs_by
returns c = (rw (c.in_ok-stack.ensures.value, c.in_ok-members.ensures.0) refl, tt, c.in_ok-shared.ensures)
