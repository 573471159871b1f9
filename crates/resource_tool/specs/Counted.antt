-- What was found, told of the notes themselves.
use Rattle.std.specs.Prelude.{◌≡◌, ◌-◌, ◌^◌, ◌==◌, Bool, List, [], ◌∷◌, filter, length, min}
use Rattle.std.specs.List.{list_any}
use Rattle.resource_tool.specs.declared.survey.finding.Finding.{Finding}
use Rattle.resource_tool.specs.declared.survey.findings.Findings.{Findings}
use Rattle.resource_tool.specs.declared.survey.findings.Tally.{Tally}
use Rattle.resource_tool.specs.Finding.{place_of, differs}
use Rattle.resource_tool.specs.Findings.{Note, no_tally, tally_in}

-- the notes of a finding
abbrev pub notes_with : Finding → List Note → List Note
notes_with finding notes = filter (λ note. place_of note.finding == place_of finding) notes

-- how many notes these are, and where the first is; 4294967295 are as many and more
abbrev pub tally_of : List Note → Tally
tally_of [] = no_tally
tally_of (note ∷ notes) = record { count = min (length (note ∷ notes)) (2 ^ 32 - 1); first = note.site }

-- an answer can differ from a device's by one of these notes
abbrev pub some_differs : List Note → Bool
some_differs notes = list_any (λ note. differs note.finding) notes

-- findings have these notes
pub record Counts (findings : Findings) (notes : List Note) : Type 0 where
  pub tallies : (finding : Finding) → tally_in findings finding ≡ tally_of (notes_with finding notes)
  pub differs : findings.differs ≡ some_differs notes
