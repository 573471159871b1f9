-- What was found: notes, and how they are counted.
use Rattle.std.specs.Prelude.{ℕ, ◌+◌, ◌-◌, ◌^◌, ◌==◌, Bool, false, ◌||◌, List, [], ◌∷◌, min, slice_index_or, slice_set, replicate, if◌then◌else◌}
use Rattle.resource_tool.specs.declared.survey.finding.Finding.{Finding}
use Rattle.resource_tool.specs.declared.survey.site.Site.{Site}
use Rattle.resource_tool.specs.declared.survey.site.Site.TheVariants.{Chunk}
use Rattle.resource_tool.specs.declared.survey.findings.Findings.{Findings}
use Rattle.resource_tool.specs.declared.survey.findings.Tally.{Tally}
use Rattle.resource_tool.specs.Finding.{place_of, differs}

-- A finding, and where it is.
pub record Note : Type 0 where
  pub finding : Finding
  pub site : Site

-- a note, where something was found
abbrev pub note_if : Bool → Finding → Site → List Note
note_if found finding site = if found then record { finding = finding; site = site } ∷ [] else []

-- a note of a chunk at a place, where something was found
abbrev pub note_at_if : Bool → Finding → ℕ → List Note
note_at_if found finding place = note_if found finding (Chunk place)

-- a note of a chunk at a place, whatever was found before
abbrev pub note_of : Finding → ℕ → List Note
note_of finding place = record { finding = finding; site = Chunk place } ∷ []

-- none of something
abbrev pub no_tally : Tally
no_tally = record { count = 0; first = Chunk 0 }

-- one more of something; 4294967295 are as many and more
abbrev pub and_one_at : Tally → Site → Tally
and_one_at tally site = record { count = min (tally.count + 1) (2 ^ 32 - 1); first = if tally.count == 0 then site else tally.first }

-- what was found of a kind
abbrev pub tally_in : Findings → Finding → Tally
tally_in findings finding = slice_index_or findings.tallies (place_of finding) no_tally

abbrev pub nothing_found : Findings
nothing_found = record { tallies = replicate 16 no_tally; differs = false }

-- with one note more
unfoldable pub with_note : Findings → Note → Findings
with_note findings note = record {
  tallies = slice_set findings.tallies (place_of note.finding) (and_one_at (tally_in findings note.finding) note.site);
  differs = findings.differs || differs note.finding;
}

-- with these notes more, one after the other
unfoldable pub noted : Findings → List Note → Findings
noted findings [] = findings
noted findings (note ∷ notes) = noted (with_note findings note) notes
