use Rattle.std.proofs.Common.{◌≡◌, Ok, subst}
use Rattle.config_record.specs.locales.declared.locale_rule.LocaleRule.{LocaleRule}
use Rattle.config_record.specs.DeviceJson.{device_in_json_by}
use Rattle.notation.specs.JsonText.{device_json}
use Rattle.notation.proofs.LineRule.{line-rule}
use Rattle.notation.proofs.RuleSteps.{json-rule}
use Rattle.notation.proofs.json_text.write_device_json.Goals as goal

pub returns-clause-as_json : goal.returns-clause-as_json
returns-clause-as_json g c = λ rule json read.
    let device = c.args.device.now.numbers in
    subst (λ (r : LocaleRule). device_in_json_by r (device_json device) ≡ Ok device) (json-rule rule json device read) c.write_known.ensures.reads_back

pub returns-clause-as_line : goal.returns-clause-as_line
returns-clause-as_line g c = λ rule line read.
    let device = c.args.device.now.numbers in
    subst (λ (r : LocaleRule). device_in_json_by r (device_json device) ≡ Ok device) (line-rule rule line device read) c.write_known.ensures.reads_back
