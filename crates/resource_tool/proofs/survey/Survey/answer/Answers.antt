use Rattle.std.proofs.Common.{option_map}
use Rattle.std.proofs.lemmas.Result.{err_from_is_err_and}
use Rattle.command_base.specs.Output.{Prints}
use Rattle.command_base.proofs.CarriedOut.{read_then, unread_stops}
use Rattle.resource_tool.specs.Survey.{SurveyBytes, SurveysFiles, survey_files, survey_held, survey_printed}
use Rattle.resource_tool.proofs.survey.Survey.answer.Goals as goal

pub returns-in_err-files-clause-answers : goal.returns-in_err-files-clause-answers
returns-in_err-files-clause-answers g c =
    let survey = c.args.self.now in
    let out = c.args.out.now in
    let p = err_from_is_err_and c.from_residual.result c.from_residual.ensures.1 in
    rw (p.1, p.2) (
    unread_stops (λ (files : SurveyBytes) done. Prints g.W.Write.contents out out done (survey_printed survey files))
    (g.I.Inputs.places c.args.inputs.now) (λ places. survey_files places survey.layers.now (option_map (λ path. path.now) survey.box_path))
    c.in_err-files.field-0.0 c.in_err-files.ensures)

pub returns-clause-answers : goal.returns-clause-answers
returns-clause-answers g c =
    let survey = c.args.self.now in
    read_then (λ read. SurveysFiles g.W.Write.contents c.args.out.now c.answer_of.new.out survey read c.answer_of.result)
    (g.I.Inputs.places c.args.inputs.now) (λ places. survey_files places survey.layers.now (option_map (λ path. path.now) survey.box_path))
    (survey_held c.in_ok-files.files) c.in_ok-files.ensures c.answer_of.ensures.0

pub returns-clause-unwritten : goal.returns-clause-unwritten
returns-clause-unwritten g c = c.answer_of.ensures.1
