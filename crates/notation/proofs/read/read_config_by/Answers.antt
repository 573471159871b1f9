use Rattle.std.proofs.Common.{◌≡◌, ℕ, List, Result, Ok, Err, IfOk, sym, ap, ◌∙◌}
use Rattle.config_record.specs.declared.device.Device.{Device}
use Rattle.config_record.specs.DeviceSeen.{device_numbers}
use Rattle.notation.specs.declared.fault.ConfigWordFault.{ConfigWordFault}
use Rattle.config_record.specs.locales.declared.locale_rule.LocaleRule.{LocaleRule}
use Rattle.notation.specs.Config.{device_of_config_by}
use Rattle.notation.specs.Fault.{seen}
use Rattle.notation.specs.Parts.{parts_of}
use Rattle.notation.specs.Reorders.{Reorders}
use Rattle.notation.proofs.OrderSteps.{any_order}
use Rattle.notation.proofs.read.read_config_by.Goals as goal

-- where the line is read at all
where_read : (rule : LocaleRule) (line text : List ℕ) (r : Result Device ConfigWordFault) → text ≡ line → seen device_numbers r ≡ device_of_config_by rule text
    → IfOk r (λ device. (other : List ℕ) → Reorders (parts_of line) (parts_of other) → device_of_config_by rule other ≡ Ok (device_numbers device))
where_read rule line text (Ok device) is e = λ other same. any_order rule line other (device_numbers device) same (ap (device_of_config_by rule) (sym is) ∙ sym e)
where_read rule line text (Err fault) is e = tt

pub returns-clause-any_order : goal.returns-clause-any_order
returns-clause-any_order c = where_read c.args.rule c.args.line.now c.as_bytes.result.now c.read_line.result c.as_bytes.ensures.value c.read_line.ensures
