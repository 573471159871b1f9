use Rattle.std.proofs.Common.{ℕ, List, ◌++◌, Option, Result, Ok, Err, append_assoc}
use Rattle.std.specs.Prelude.{OnOk}
use Rattle.std.specs.Io.KnownBytes.{Appends}
use Rattle.std.proofs.KnownBytes.{Appends-trans}
use Rattle.locales.proofs.text.write_with_script.Goals as goal

-- what comes last, unless the writer failed
written_last : {E : Type 0} (old between new : Option (List ℕ)) (result : Result (Unit {0}) E) (text others : List ℕ) → Appends old between text → OnOk result (Appends between new others) → OnOk result (Appends old new (text ++ others))
written_last old between new (Ok done) text others first second = Appends-trans old between new text others first second
written_last old between new (Err error) text others first second = tt

pub returns : goal.returns
returns g c =
    let language = rw c.language_alone.ensures at c.in_ok-write_plain_locale.ensures in
    let dash = Appends-trans _ _ _ _ _ language c.in_ok-write_all.ensures.bytes in
    let script = Appends-trans _ _ _ _ _ dash c.in_ok-write_all-2.ensures.bytes in
    let whole = written_last _ _ _ c.write_plain_locale-2.result _ _ script (rw c.region_alone.ensures at c.write_plain_locale-2.ensures) in
    simp append_assoc (simp append_assoc at whole)
