use Rattle.std.proofs.Common.{rules, sym, ◌∙◌}
use Rattle.config_match.specs.config_record.DeviceSeen.{device_numbers}
use Rattle.config_match.specs.config_record.Record.{record_bytes}
use Rattle.config_match.proofs.NoMismatch.{mismatch_there, mismatch_nowhere}
use Rattle.config_match.proofs.matching.mismatch.Goals as goal

pub returns-clause-value : goal.returns-clause-value
returns-clause-value c =
    mismatch_there (record_bytes c.args.stored.now) (device_numbers c.args.device.now) c.conditions-rules.result.now c.in_ok-place.place _ c.conditions-rules.ensures.value
    (sym c.is_set_aside_at.ensures ∙ c.if-is_set_aside_at.false) c.in_ok-place.ensures.value c.in_ok-place.ensures.within

pub returns-in_err-place-clause-value : goal.returns-in_err-place-clause-value
returns-in_err-place-clause-value c =
    let none = mismatch_nowhere (record_bytes c.args.stored.now) (device_numbers c.args.device.now) c.conditions-rules.result.now c.conditions-rules.ensures.value (sym c.is_set_aside_at.ensures ∙ c.if-is_set_aside_at.false) c.in_err-place.ensures.value in
    search (rules, none)
