-- Whether parts were written.
use Rattle.std.proofs.Common.{◌≡◌, ℕ, true, false, List, [], ◌∷◌, codes, Option, rules}
use Rattle.std.specs.Io.KnownBytes.{Appends}
use Rattle.config_record.specs.locales.Locale.{dash}
use Rattle.config_record.proofs.SeparatorSteps.{Continues-joined}
use Rattle.notation.specs.Dashes.{WritesParts}
use Rattle.notation.specs.ConfigText.{parts_text}

pub some_written : (old new : Option (List ℕ)) (parts : List (List ℕ)) → WritesParts false true old new parts → Appends old new (parts_text parts)
some_written old new [] written = absurd (let none : true ≡ false = λ i. (written.separator i).due in cc)
some_written old new (part ∷ parts) written = Continues-joined dash _ old new (part ∷ parts) written

pub none_written : (old mid new : Option (List ℕ)) (parts : List (List ℕ)) → WritesParts false false old mid parts → Appends mid new (codes "(default)") → Appends old new (parts_text parts)
none_written old mid new [] written default = let nothing = Continues-joined dash _ old mid [] written in search rules
none_written old mid new (part ∷ parts) written default = absurd (let some : false ≡ true = λ i. (written.separator i).due in cc)
