use Rattle.std.proofs.Common.{Bool, is_none, ap, ◌∙◌}
use Rattle.config_record.specs.Record.{record_bytes}
use Rattle.config_record.specs.ComparedNumber.{record_number, device_number}
use Rattle.config_record.specs.DeviceSeen.{device_numbers}
use Rattle.config_match.specs.declared.rule.Rule.{Rule}
use Rattle.config_match.specs.Table.{decides}
use Rattle.config_match.proofs.TableLemmas.{no_place, answers, stands-here, stands-behind, stands-nowhere}
use Rattle.config_match.proofs.table.deciding_place.Goals as goal

pub returns-then-not-is_pass-clause-value : goal.returns-then-not-is_pass-clause-value
returns-then-not-is_pass-clause-value c =
    let test : Rule → Bool = decides (record_number (record_bytes c.args.a.now)) (record_number (record_bytes c.args.b.now)) (device_number (device_numbers c.args.device.now)) in
    stands-here test c.args.rules.now c.loop-place.place _ c.loop-place-test.true (answers _ _ _ _ c.answer.ensures c.is_pass.ensures c.if-not-is_pass.true) c.loop-place.invariant

pub loop-place-preserved : goal.loop-place-preserved
loop-place-preserved c =
    let test : Rule → Bool = decides (record_number (record_bytes c.args.a.now)) (record_number (record_bytes c.args.b.now)) (device_number (device_numbers c.args.device.now)) in
    stands-behind test c.args.rules.now c.loop-place.place _ c.loop-place-test.true (answers _ _ _ _ c.answer.ensures c.is_pass.ensures c.if-not-is_pass.false) c.loop-place.invariant

pub returns-clause-value : goal.returns-clause-value
returns-clause-value c =
    let test : Rule → Bool = decides (record_number (record_bytes c.args.a.now)) (record_number (record_bytes c.args.b.now)) (device_number (device_numbers c.args.device.now)) in
    stands-nowhere test c.args.rules.now c.loop-place.place c.loop-place-test.false c.loop-place.invariant

pub returns-then-not-is_pass-clause-none : goal.returns-then-not-is_pass-clause-none
returns-then-not-is_pass-clause-none c =
    ap is_none (returns-then-not-is_pass-clause-value c)
    ∙ no_place c.args.rules.now (record_number (record_bytes c.args.a.now)) (record_number (record_bytes c.args.b.now)) (device_number (device_numbers c.args.device.now))

pub returns-clause-none : goal.returns-clause-none
returns-clause-none c =
    ap is_none (returns-clause-value c)
    ∙ no_place c.args.rules.now (record_number (record_bytes c.args.a.now)) (record_number (record_bytes c.args.b.now)) (device_number (device_numbers c.args.device.now))
