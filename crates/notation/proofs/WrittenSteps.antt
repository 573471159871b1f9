-- Texts that are written one after the other.
use Rattle.std.proofs.Common.{ℕ, Bool, true, false, List, [], ◌∷◌, ◌++◌, Option, Result, Ok, Err, refl, sym, subst}
use Rattle.std.specs.Prelude.{OnOk, if◌then◌else◌}
use Rattle.std.specs.Io.KnownBytes.{Appends}
use Rattle.std.proofs.KnownBytes.{Appends-trans}
use Rattle.std.proofs.lemmas.List.{append-nil}
use Rattle.config_record.specs.Separator.{continued, Continues}

-- one was written, and what comes then, unless the writer failed
pub written_on : {E : Type 0} (old between new : Option (List ℕ)) (result : Result (Unit {0}) E) (text others : List ℕ) → Appends old between text → OnOk result (Appends between new others) → OnOk result (Appends old new (text ++ others))
written_on old between new (Ok done) text others first second = Appends-trans old between new text others first second
written_on old between new (Err error) text others first second = tt

-- one part, behind a byte where that is due
pub one_written : {E : Type 0} (byte : ℕ) (due : Bool) (old between new : Option (List ℕ)) (result : Result (Unit {0}) E) (part : List ℕ) → Appends old between (if due then byte ∷ [] else []) → OnOk result (Appends between new part)
    → OnOk result (Continues (record { byte = byte; due = due }) (record { byte = byte; due = true }) old new (part ∷ []))
unfolding continued
one_written byte true old between new (Ok done) part first second = record {
  text = subst (Appends old new) (sym (append-nil (byte ∷ part))) (Appends-trans old between new (byte ∷ []) part first second);
  separator = refl;
}
one_written byte false old between new (Ok done) part first second = record { text = Appends-trans old between new [] part first second; separator = refl }
one_written byte due old between new (Err error) part first second = tt
