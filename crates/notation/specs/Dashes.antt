-- Parts with a byte between any two, as they are written one after the other. Contracts within the crate alone speak of this.
use Rattle.std.specs.Prelude.{ℕ, Bool, List, Option}
use Rattle.config_record.specs.Separator.{Continues}
use Rattle.config_record.specs.locales.Locale.{dash}

-- parts were written after what stood there; where one stands there, the byte is due before the next
abbrev pub WritesBetween : ℕ → Bool → Bool → Option (List ℕ) → Option (List ℕ) → List (List ℕ) → Type 0
WritesBetween byte before after old new parts =
    Continues (record { byte = byte; due = before }) (record { byte = byte; due = after }) old new parts

abbrev pub WritesParts : Bool → Bool → Option (List ℕ) → Option (List ℕ) → List (List ℕ) → Type 0
WritesParts = WritesBetween dash
