use Rattle.std.specs.Prelude.{◌||◌}
use Rattle.std.proofs.Common.{Bool, true, false, ◌≡◌, ap, sym, ◌∙◌}
use Rattle.config_record.specs.Record.{record_bytes}
use Rattle.config_record.specs.ComparedNumber.{record_number, device_number}
use Rattle.config_record.specs.DeviceSeen.{device_numbers}
use Rattle.config_match.specs.declared.rule.Rule.{Rule}
use Rattle.config_match.specs.Answer.{is_yes}
use Rattle.config_match.specs.Table.{keeps_out}
use Rattle.config_match.proofs.TableLemmas.{answers, stands-here, stands-behind, stands-nowhere}
use Rattle.config_match.proofs.table.place_keeping_out.Goals as goal
use Rattle.config_match.proofs.table.place_keeping_out.Goals.{then-not-is_pass-via-then-not-is_pass, then-not-is_pass-via-else-not-is_pass+then-is_yes}

one-of : (first second : Bool) → first ≡ true → (first || second) ≡ true
one-of true second e = e
one-of false second e = absurd cc

other-of : (first second says : Bool) → first ≡ false → second ≡ says → (first || second) ≡ says
other-of true second says e f = absurd cc
other-of false second says e f = f

pub returns-then-not-is_pass-clause-value : goal.returns-then-not-is_pass-clause-value
returns-then-not-is_pass-clause-value c =
    let test : Rule → Bool = keeps_out (record_number (record_bytes c.args.a.now)) (record_number (record_bytes c.args.b.now)) (device_number (device_numbers c.args.device.now)) in
    stands-here test c.args.rules.now c.loop-place.place _ c.loop-place-test.true
    (elim c.then-not-is_pass.branch [
      | then-not-is_pass-via-then-not-is_pass w ↦ one-of _ _ (answers _ _ _ _ c.answer.ensures c.is_pass.ensures w.if-not-is_pass.true)
      | then-not-is_pass-via-else-not-is_pass+then-is_yes w ↦
          other-of _ _ _ (answers _ _ _ _ c.answer.ensures c.is_pass.ensures w.if-not-is_pass.false) (ap is_yes (sym w.answer-else-not-is_pass.ensures) ∙ sym w.is_yes.ensures ∙ w.if-is_yes.true)
    ]) c.loop-place.invariant

pub loop-place-preserved : goal.loop-place-preserved
loop-place-preserved c =
    let test : Rule → Bool = keeps_out (record_number (record_bytes c.args.a.now)) (record_number (record_bytes c.args.b.now)) (device_number (device_numbers c.args.device.now)) in
    stands-behind test c.args.rules.now c.loop-place.place _ c.loop-place-test.true
    (other-of _ _ _ (answers _ _ _ _ c.answer.ensures c.is_pass.ensures c.if-not-is_pass.false) (ap is_yes (sym c.answer-else-not-is_pass.ensures) ∙ sym c.is_yes.ensures ∙ c.if-is_yes.false)) c.loop-place.invariant

pub returns-clause-value : goal.returns-clause-value
returns-clause-value c =
    let test : Rule → Bool = keeps_out (record_number (record_bytes c.args.a.now)) (record_number (record_bytes c.args.b.now)) (device_number (device_numbers c.args.device.now)) in
    stands-nowhere test c.args.rules.now c.loop-place.place c.loop-place-test.false c.loop-place.invariant
