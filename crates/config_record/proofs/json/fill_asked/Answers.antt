use Rattle.std.proofs.Common.{ap, ◌∙◌}
use Rattle.config_record.specs.DeviceKinds.{number_asked}
use Rattle.std.proofs.lemmas.Result.{err_from_is_err_and}
use Rattle.config_record.proofs.FillSteps.{FillsAllBut-stops}
use Rattle.config_record.proofs.json.fill_asked.Goals as goal

pub returns-in_err-numbers : goal.returns-in_err-numbers
returns-in_err-numbers c =
    let p = err_from_is_err_and c.from_residual.result c.from_residual.ensures.1 in
    rw (p.1, p.2) (FillsAllBut-stops _ _ _ _ _ _ c.loop-place.invariant c.loop-place-test.true (c.in_err-numbers.ensures ∙ ap (number_asked _) c.slot_at.ensures))
