-- A call that writes a text.
use Rattle.std.specs.Prelude.{ℕ, List, Option, Result, OnOk}
use Rattle.std.specs.Io.KnownBytes.{Appends}

-- Unless the writer failed, which was old and is new, it got this text and nothing else.
abbrev pub Writes : {W X E : Type 0} → (W → Option (List ℕ)) → W → W → Result X E → List ℕ → Type 0
Writes contents old new result text = OnOk result (Appends (contents old) (contents new) text)
