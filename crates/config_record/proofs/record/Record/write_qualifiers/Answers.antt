use Rattle.std.proofs.KnownBytes.{Appends-trans}
use Rattle.config_record.specs.Qualifiers.{record_qualifiers, record_text}
use Rattle.config_record.proofs.SeparatorSteps.{Continues-trans, Continues-joined}
use Rattle.config_record.proofs.record.Record.write_qualifiers.Goals as goal

pub returns : goal.returns
unfolding record_qualifiers record_text
returns g c =
    let numbers = rw c.new-comma.ensures at c.in_ok-write_coordinates.ensures in
    let script = rw c.script.ensures at c.in_ok-write_bytes.ensures in
    let variant = rw c.variant.ensures at c.in_ok-write_bytes-2.ensures in
    let parts = Continues-trans _ _ _ _ _ _ _ _ (Continues-trans _ _ _ _ _ _ _ _ numbers script) variant in
    Appends-trans _ _ _ _ _ c.in_ok-write_all.ensures.bytes (Appends-trans _ _ _ _ _ (Continues-joined _ _ _ _ _ parts) c.in_ok-write_all-2.ensures.bytes)
