use Rattle.std.proofs.Common.{sym, ◌∙◌}
use Rattle.std.proofs.lemmas.Result.{err_from_is_err_and}
use Rattle.config_record.proofs.KindSteps.{device-malformed, device-followed, device-means, seen-gives}
use Rattle.config_record.proofs.device.Device.read_by.Goals as goal

pub returns-in_err-no_others : goal.returns-in_err-no_others
returns-in_err-no_others c =
    let p = err_from_is_err_and c.from_residual-in_err-no_others.result c.from_residual-in_err-no_others.ensures.1 in
    rw (p.1, p.2) (λ _. device-malformed _ _ _ c.in_ok-tokens.ensures.1 c.in_err-no_others.ensures.value)

pub returns-in_err-end : goal.returns-in_err-end
returns-in_err-end c =
    let p = err_from_is_err_and c.from_residual-in_err-end.result c.from_residual-in_err-end.ensures.1 in
    rw (p.1, p.2) (λ _. device-followed _ _ _ _ _ _ c.names.ensures c.in_ok-tokens.ensures.1 c.in_ok-no_others.ensures.value c.in_err-end.ensures)

pub returns : goal.returns
returns c =
    seen-gives c.device_of_members.result _
    (device-means _ _ _ _ _ _ c.names.ensures c.in_ok-tokens.ensures.0 c.in_ok-tokens.ensures.1 c.in_ok-no_others.ensures.value c.in_ok-end.ensures ∙ sym c.device_of_members.ensures)
