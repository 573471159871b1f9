use Rattle.std.proofs.Common.{sym}
use Rattle.std.proofs.KnownBytes.{Appends-trans}
use Rattle.std.proofs.lemmas.Result.{on_ok_weaker}
use Rattle.resource_text.specs.DeviceNotation.{qualifier_text}
use Rattle.resource_text.proofs.devices.write_qualifier.Goals as goal

pub returns-in_ok-write_word : goal.returns-in_ok-write_word
unfolding qualifier_text
returns-in_ok-write_word g c =
    let to_word = Appends-trans _ _ _ _ _ c.in_ok-write_all.ensures.bytes c.in_ok-write_word.ensures in
    rw (sym c.if-differ_at.ensures) (on_ok_weaker c.write_all-then-differ_at.result (λ last. Appends-trans _ _ _ _ _ to_word last) c.write_all-then-differ_at.ensures.bytes)

pub returns-in_ok-write_all-2 : goal.returns-in_ok-write_all-2
unfolding qualifier_text
returns-in_ok-write_all-2 g c =
    rw (sym c.if-differ_at.ensures, sym c.if-some_has.ensures)
    (on_ok_weaker c.write_word-then-some_has.result (λ last. Appends-trans _ _ _ _ _ c.in_ok-write_all-2.ensures.bytes last) c.write_word-then-some_has.ensures)
