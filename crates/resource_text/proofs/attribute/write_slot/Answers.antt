use Rattle.std.proofs.Common.{sym, subst}
use Rattle.std.proofs.KnownBytes.{Appends-trans}
use Rattle.std.proofs.lemmas.Result.{on_ok_weaker}
use Rattle.contract_words.specs.Writes.{Writes}
use Rattle.reference_resolver.specs.config_precedence.config_record.DeviceSeen.{device_numbers}
use Rattle.answer_text.specs.bags_themes.declared.slot.Slot.{Slot}
use Rattle.resource_text.specs.AttrNotation.{slot_notation}
use Rattle.resource_text.proofs.attribute.write_slot.Goals as goal

pub returns-in_ok-write_look_ups-in-Refers : goal.returns-in_ok-write_look_ups-in-Refers
unfolding slot_notation
returns-in_ok-write_look_ups-in-Refers g c =
    let d = device_numbers c.args.device.now in
    subst (λ (slot : Slot). Writes g.W.Write.contents c.args.out.now c.write_end_within.new.out c.write_end_within.result (slot_notation c.args.naming.now d slot)) (sym c.in-Refers.is)
    (on_ok_weaker c.write_end_within.result (λ last. Appends-trans _ _ _ _ _ c.in_ok-write_look_ups-in-Refers.ensures last) c.write_end_within.ensures)
