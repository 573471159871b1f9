use Rattle.std.proofs.Common.{refl}
use Rattle.std.proofs.lemmas.Result.{err_from_is_err_and}
use Rattle.resource_tool.proofs.Answering.{answered}
use Rattle.resource_tool.specs.Survey.{survey_held, survey_printed}
use Rattle.resource_tool.proofs.survey.Survey.answer_of.Goals as goal

pub returns : goal.returns
returns g c =
    let printed = rw (c.deref.ensures.value, c.in_ok-layers.ensures, c.as_deref-box_json.ensures.value, c.paths.ensures) at c.survey_by.ensures in
    answered (survey_printed c.args.self.now) g.W.Write.contents c.args.out.now c.survey_by.new.out (survey_held c.args.files.now) c.survey_by.result
    c.status_or_stop.result printed c.status_or_stop.ensures

pub returns-in_err-layers : goal.returns-in_err-layers
returns-in_err-layers g c =
    let p = err_from_is_err_and c.from_residual.result c.from_residual.ensures.1 in
    rw (p.1, p.2) (λ told. absurd (told refl), λ told. refl)
