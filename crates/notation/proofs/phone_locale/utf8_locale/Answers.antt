use Rattle.std.proofs.Common.{◌∙◌, ap}
use Rattle.std.specs.Result.{result_ok}
use Rattle.notation.proofs.GivenSteps.{of_utf8, of_no_utf8}
use Rattle.notation.proofs.phone_locale.utf8_locale.Goals as goal

pub returns-in-Ok-clause-value : goal.returns-in-Ok-clause-value
returns-in-Ok-clause-value c =
    of_utf8 c.args.text.now c.in-Ok.text.now c.ok.result c.in-Ok.ensures.cases.1 c.in-Ok.ensures.cases.0 (c.ok.ensures.value ∙ ap result_ok c.read_locale.ensures.value)

pub returns-in-Err-clause-value : goal.returns-in-Err-clause-value
returns-in-Err-clause-value c = of_no_utf8 c.args.text.now c.in-Err.ensures.cases.0
