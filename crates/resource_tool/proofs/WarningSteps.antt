-- A warning is told exactly where some note is one by which an answer can differ.
use Rattle.std.proofs.Common.{◌≡◌, ◌-◌, ◌^◌, ◌==◌, Bool, true, false, not, cond, List, [], ◌∷◌, length, min, refl, sym, ap, ◌∙◌, arith}
use Rattle.std.specs.Prelude.{◌&&◌, ◌||◌}
use Rattle.std.specs.List.{list_any}
use Rattle.std.proofs.Math.Path.{fun_ext}
use Rattle.std.proofs.lemmas.Bool.{ne_eqb}
use Rattle.resource_tool.specs.declared.survey.finding.Finding.{Finding}
use Rattle.resource_tool.specs.declared.survey.finding.Finding.TheVariants.{ShortOffsets, TypeFlags, Gender, NewerQualifier, CompactEntry, EntryFlags, Library, Overlayable, StagedAlias, UnknownChunk, DynamicReference, DynamicAttribute, BrokenString, SetAside, Locale, BoxLocale}
use Rattle.resource_tool.specs.Finding.{all_findings, differs, place_of}
use Rattle.resource_tool.specs.Findings.{Note}
use Rattle.resource_tool.specs.Counted.{notes_with, some_differs, tally_of}
use Rattle.resource_tool.specs.LayerNotes.{notes_of_layer}
use Rattle.resource_tool.specs.WarningsLaw.{WarningsTell, is_warned}
use Rattle.resource_tool.proofs.LayerLaws.{differs-of_layer}

-- ---- one finding

-- a note is of a finding
abbrev is_of : Finding → Note → Bool
is_of finding note = place_of note.finding == place_of finding

some_counted : (note : Note) (notes : List Note) → not ((tally_of (note ∷ notes)).count == 0) ≡ true
some_counted note notes = ap (λ (b : Bool). not b) (ne_eqb (min (length (note ∷ notes)) (2 ^ 32 - 1)) 0 (λ none. omega (arith, none)))

-- a finding is counted where some note is of it
counted-any : (finding : Finding) (notes : List Note) → not ((tally_of (notes_with finding notes)).count == 0) ≡ list_any (is_of finding) notes
counted-any finding [] = refl
counted-any finding (note ∷ notes) = by (is_of finding note) (counted-any finding notes)
  where
    by : (b : Bool) → not ((tally_of (notes_with finding notes)).count == 0) ≡ list_any (is_of finding) notes
        → not ((tally_of (cond b (note ∷ notes_with finding notes) (notes_with finding notes))).count == 0) ≡ (b || list_any (is_of finding) notes)
    by true others = some_counted note (notes_with finding notes)
    by false others = others

-- ---- all findings

-- some finding of the note is one by which an answer can differ
one-note : (finding : Finding) → list_any (λ other. differs other && place_of finding == place_of other) all_findings ≡ differs finding
unfolding all_findings differs place_of
one-note ShortOffsets = refl
one-note TypeFlags = refl
one-note Gender = refl
one-note NewerQualifier = refl
one-note CompactEntry = refl
one-note EntryFlags = refl
one-note Library = refl
one-note Overlayable = refl
one-note StagedAlias = refl
one-note UnknownChunk = refl
one-note DynamicReference = refl
one-note DynamicAttribute = refl
one-note BrokenString = refl
one-note SetAside = refl
one-note Locale = refl
one-note BoxLocale = refl

no-note : list_any (λ other. differs other && false) all_findings ≡ false
unfolding all_findings differs
no-note = refl

both_or : (d q r u v : Bool) → ((d && (q || r)) || (u || v)) ≡ (((d && q) || u) || ((d && r) || v))
both_or true true r u v = refl
both_or true false true true v = refl
both_or true false true false v = refl
both_or true false false u v = refl
both_or false q r u v = refl

any-or : {A : Type 0} (d q r : A → Bool) (xs : List A) → list_any (λ x. d x && (q x || r x)) xs ≡ (list_any (λ x. d x && q x) xs || list_any (λ x. d x && r x) xs)
any-or d q r [] = refl
any-or d q r (x ∷ xs) =
    ap (λ (b : Bool). (d x && (q x || r x)) || b) (any-or d q r xs)
    ∙ both_or (d x) (q x) (r x) (list_any (λ y. d y && q y) xs) (list_any (λ y. d y && r y) xs)

warned-of_notes : (notes : List Note) → list_any (λ finding. differs finding && list_any (is_of finding) notes) all_findings ≡ some_differs notes
warned-of_notes [] = no-note
warned-of_notes (note ∷ notes) =
    any-or differs (λ finding. is_of finding note) (λ finding. list_any (is_of finding) notes) all_findings
    ∙ (λ k. one-note note.finding k || warned-of_notes notes k)

some_warned : (notes : List Note) → list_any (is_warned notes) all_findings ≡ some_differs notes
some_warned notes =
    ap (λ (test : Finding → Bool). list_any test all_findings) (fun_ext (λ (finding : Finding). ap (λ (b : Bool). differs finding && b) (counted-any finding notes)))
    ∙ warned-of_notes notes

-- ---- a layer

pub warnings_tell : WarningsTell
warnings_tell rule stack locales numbered = sym (some_warned (notes_of_layer rule stack locales numbered) ∙ differs-of_layer rule stack locales numbered)
