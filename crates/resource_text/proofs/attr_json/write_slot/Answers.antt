use Rattle.std.proofs.Common.{sym, subst, ap, ◌∙◌}
use Rattle.std.proofs.KnownBytes.{Appends-trans}
use Rattle.std.proofs.lemmas.Result.{on_ok_weaker}
use Rattle.contract_words.specs.Writes.{Writes}
use Rattle.serde_json.specs.Written.{has_float}
use Rattle.answer_text.specs.bags_themes.Attribute.{references_after_slot}
use Rattle.answer_text.specs.bags_themes.declared.slot.Slot.{Slot}
use Rattle.reference_resolver.specs.config_precedence.config_record.DeviceSeen.{device_numbers}
use Rattle.resource_text.specs.AttrJson.{slot_json}
use Rattle.resource_text.proofs.NoFloatLines.{end_within-no_float}
use Rattle.resource_text.proofs.VerdictNoFloat.{slot_end-no_float}
use Rattle.resource_text.proofs.attr_json.write_slot.Goals as goal

pub write_slot_line-requires : goal.write_slot_line-requires
write_slot_line-requires g c =
    ap has_float c.in_ok-end-in-Refers.ensures
    ∙ end_within-no_float c.args.naming.now references_after_slot (device_numbers c.args.device.now) c.in-Refers.target.0

pub write_slot_line-requires-in-Ends : goal.write_slot_line-requires-in-Ends
write_slot_line-requires-in-Ends g c = ap has_float c.in_ok-end-in-Ends.ensures ∙ slot_end-no_float c.args.naming.now c.in-Ends.end

pub returns-in_ok-end-in-Refers : goal.returns-in_ok-end-in-Refers
unfolding slot_json
returns-in_ok-end-in-Refers g c =
    let d = device_numbers c.args.device.now in
    subst (λ (slot : Slot). Writes g.W.Write.contents c.args.out.now c.write_slot_line.new.out c.write_slot_line.result (slot_json c.args.naming.now d slot)) (sym c.in-Refers.is)
    (on_ok_weaker c.write_slot_line.result (λ line. Appends-trans _ _ _ _ _ c.in_ok-write_look_ups-in-Refers.ensures line)
    (rw c.in_ok-end-in-Refers.ensures at c.write_slot_line.ensures))
