use Rattle.std.proofs.Common.{sym, ap, ◌∙◌}
use Rattle.bags_themes.specs.config_record.DeviceSeen.{device_numbers}
use Rattle.bags_themes.specs.reference_resolver.declared.end.End.{End}
use Rattle.names.specs.Label.{LabelOf}
use Rattle.answer_text.specs.Content.{AbsentOf, TooManyReferencesOf, ValueContentOf, ValueOf}
use Rattle.answer_text.specs.ContentAt.{end_content}
use Rattle.answer_text.proofs.device_content.content_of_end.Goals as goal

pub returns-in_ok-value_content-in-Value : goal.returns-in_ok-value_content-in-Value
returns-in_ok-value_content-in-Value c =
    ap (λ (said : ValueContentOf). ValueOf said) c.in_ok-value_content-in-Value.ensures ∙ sym (ap (λ (end : End). end_content c.args.stack.now end (device_numbers c.args.device.now)) c.in-Value.is)

pub returns-in_ok-label_of_id-in-Absent : goal.returns-in_ok-label_of_id-in-Absent
returns-in_ok-label_of_id-in-Absent c =
    ap (λ (said : LabelOf). AbsentOf said) c.in_ok-label_of_id-in-Absent.ensures ∙ sym (ap (λ (end : End). end_content c.args.stack.now end (device_numbers c.args.device.now)) c.in-Absent.is)

pub returns-in_ok-label_of_id-in-TooLong : goal.returns-in_ok-label_of_id-in-TooLong
returns-in_ok-label_of_id-in-TooLong c =
    ap (λ (said : LabelOf). TooManyReferencesOf said) c.in_ok-label_of_id-in-TooLong.ensures ∙ sym (ap (λ (end : End). end_content c.args.stack.now end (device_numbers c.args.device.now)) c.in-TooLong.is)
