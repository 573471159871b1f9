-- Findings have the notes that were noted in them.
use Rattle.std.proofs.Common.{◌≡◌, ◌≢◌, ℕ, ◌+◌, ◌-◌, ◌^◌, ◌<◌, ◌≤◌, Bool, true, false, cond, List, [], ◌∷◌, length, refl, sym, ap, ◌∙◌, arith, get_or, set, get_or-set_other}
use Rattle.std.specs.Prelude.{◌==◌, ◌||◌, min}
use Rattle.std.proofs.Math.Bool.{or-false, or_assoc}
use Rattle.std.proofs.lemmas.Bool.{eqb-true, eq-eqb}
use Rattle.std.proofs.lemmas.Bool.Decides.{nat_tests}
use Rattle.std.proofs.lemmas.Grind.{get_or-set_at}
use Rattle.std.proofs.lemmas.List.{get_or-replicate, length-set}
use Rattle.resource_tool.specs.declared.survey.finding.Finding.{Finding}
use Rattle.resource_tool.specs.declared.survey.finding.Finding.TheVariants as kinds
use Rattle.resource_tool.specs.declared.survey.site.Site.{Site}
use Rattle.resource_tool.specs.declared.survey.findings.Findings.{Findings}
use Rattle.resource_tool.specs.declared.survey.findings.Tally.{Tally}
use Rattle.resource_tool.specs.Finding.{place_of, differs}
use Rattle.resource_tool.specs.Findings.{Note, no_tally, and_one_at, tally_in, nothing_found, with_note, noted}
use Rattle.resource_tool.specs.Counted.{notes_with, tally_of, some_differs, Counts}

place_of-small : (finding : Finding) → place_of finding < 16
unfolding place_of
place_of-small kinds.ShortOffsets = omega arith
place_of-small kinds.TypeFlags = omega arith
place_of-small kinds.Gender = omega arith
place_of-small kinds.NewerQualifier = omega arith
place_of-small kinds.CompactEntry = omega arith
place_of-small kinds.EntryFlags = omega arith
place_of-small kinds.Library = omega arith
place_of-small kinds.Overlayable = omega arith
place_of-small kinds.StagedAlias = omega arith
place_of-small kinds.UnknownChunk = omega arith
place_of-small kinds.DynamicReference = omega arith
place_of-small kinds.DynamicAttribute = omega arith
place_of-small kinds.BrokenString = omega arith
place_of-small kinds.SetAside = omega arith
place_of-small kinds.Locale = omega arith
place_of-small kinds.BoxLocale = omega arith

-- a tally with the sites of notes more
abbrev tallied : Tally → List Note → Tally
tallied tally [] = tally
tallied tally (note ∷ notes) = tallied (and_one_at tally note.site) notes

-- one note more counts for its finding alone
step : (tallies : List Tally) (i j : ℕ) (site : Site) (b : Bool) → i < length tallies → (i == j) ≡ b
    → get_or (set tallies i (and_one_at (get_or tallies i no_tally) site)) j no_tally ≡ cond b (and_one_at (get_or tallies j no_tally) site) (get_or tallies j no_tally)
step tallies i j site true below same =
    let e : j ≡ i = sym (eqb-true i j same) in
    get_or-set_at tallies i j (and_one_at (get_or tallies i no_tally) site) no_tally e below
    ∙ ap (λ (k : ℕ). and_one_at (get_or tallies k no_tally) site) (sym e)
step tallies i j site false below same =
    let other : j ≢ i = λ e. absurd (let t : (i == j) ≡ true = eq-eqb i j (sym e) in cc) in
    get_or-set_other tallies i j (and_one_at (get_or tallies i no_tally) site) no_tally other

-- the notes of a finding, with one note more in front
front : (tally : Tally) (note : Note) (notes : List Note) (b : Bool)
    → tallied (cond b (and_one_at tally note.site) tally) notes ≡ tallied tally (cond b (note ∷ notes) notes)
front tally note notes true = refl
front tally note notes false = refl

noted-tally : (findings : Findings) (notes : List Note) (finding : Finding) → length findings.tallies ≡ 16
    → tally_in (noted findings notes) finding ≡ tallied (tally_in findings finding) (notes_with finding notes)
unfolding noted with_note
noted-tally findings [] finding whole = refl
noted-tally findings (note ∷ notes) finding whole =
    let i = place_of note.finding in
    let j = place_of finding in
    let below : i < length findings.tallies = omega (arith, place_of-small note.finding, whole) in
    let more : Findings = record { tallies = set findings.tallies i (and_one_at (get_or findings.tallies i no_tally) note.site); differs = findings.differs || differs note.finding } in
    let still : length more.tallies ≡ 16 = length-set findings.tallies i (and_one_at (get_or findings.tallies i no_tally) note.site) ∙ whole in
    noted-tally more notes finding still
    ∙ ap (λ (t : Tally). tallied t (notes_with finding notes)) (step findings.tallies i j note.site (i == j) below refl)
    ∙ front (tally_in findings finding) note (notes_with finding notes) (i == j)

-- sites behind the first change the count alone
counted : (notes : List Note) (count : ℕ) (site : Site) → 0 < count → count ≤ 2 ^ 32 - 1
    → tallied (record { count = count; first = site }) notes ≡ record { count = min (count + length notes) (2 ^ 32 - 1); first = site }
counted [] count site some few =
    let same : count ≡ min (count + length {A = Note} []) (2 ^ 32 - 1) = omega (arith, few) in
    ap (λ (n : ℕ). record { count = n; first = site }) same
counted (note ∷ notes) count site some few =
    let kept : (count == 0) ≡ false = grind (arith, nat_tests) in
    let n = min (count + 1) (2 ^ 32 - 1) in
    let total : min (n + length notes) (2 ^ 32 - 1) ≡ min (count + length {A = Note} (note ∷ notes)) (2 ^ 32 - 1) = omega (arith, few) in
    rw kept (counted notes n site (omega (arith, some)) (omega arith) ∙ ap (λ (m : ℕ). record { count = m; first = site }) total)

tallied-none : (notes : List Note) → tallied no_tally notes ≡ tally_of notes
tallied-none [] = refl
tallied-none (note ∷ notes) =
    let total : min (1 + length notes) (2 ^ 32 - 1) ≡ min (length (note ∷ notes)) (2 ^ 32 - 1) = omega arith in
    counted notes 1 note.site (omega arith) (omega arith) ∙ ap (λ (n : ℕ). record { count = n; first = note.site }) total

nothing-tally : (finding : Finding) → tally_in nothing_found finding ≡ no_tally
nothing-tally finding = get_or-replicate 16 (place_of finding) no_tally no_tally (place_of-small finding)

pub noted-differs : (findings : Findings) (notes : List Note) → (noted findings notes).differs ≡ (findings.differs || some_differs notes)
unfolding noted with_note
noted-differs findings [] = sym (or-false findings.differs)
noted-differs findings (note ∷ notes) =
    noted-differs (with_note findings note) notes ∙ or_assoc findings.differs (differs note.finding) (some_differs notes)

-- Findings have the notes that were noted in them.
pub noted-counts : (notes : List Note) → Counts (noted nothing_found notes) notes
noted-counts notes = record {
  tallies = λ finding.
      noted-tally nothing_found notes finding refl
      ∙ ap (λ (t : Tally). tallied t (notes_with finding notes)) (nothing-tally finding)
      ∙ tallied-none (notes_with finding notes);
  differs = noted-differs nothing_found notes;
}
