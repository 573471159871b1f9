-- What can be found, in its order.
use Rattle.std.specs.Prelude.{ℕ, Bool, true, false, List, [], ◌∷◌, codes}
use Rattle.resource_tool.specs.declared.survey.finding.Finding.{Finding}
use Rattle.resource_tool.specs.declared.survey.finding.Finding.TheVariants.{ShortOffsets, TypeFlags, Gender, NewerQualifier, CompactEntry, EntryFlags, Library, Overlayable, StagedAlias, UnknownChunk, DynamicReference, DynamicAttribute, BrokenString, SetAside, Locale, BoxLocale}

-- the place of each
unfoldable pub place_of : Finding → ℕ
place_of ShortOffsets = 0
place_of TypeFlags = 1
place_of Gender = 2
place_of NewerQualifier = 3
place_of CompactEntry = 4
place_of EntryFlags = 5
place_of Library = 6
place_of Overlayable = 7
place_of StagedAlias = 8
place_of UnknownChunk = 9
place_of DynamicReference = 10
place_of DynamicAttribute = 11
place_of BrokenString = 12
place_of SetAside = 13
place_of Locale = 14
place_of BoxLocale = 15

-- all of them, in this order
unfoldable pub all_findings : List Finding
all_findings =
    ShortOffsets ∷ TypeFlags ∷ Gender ∷ NewerQualifier ∷ CompactEntry ∷ EntryFlags ∷ Library ∷ Overlayable
    ∷ StagedAlias ∷ UnknownChunk ∷ DynamicReference ∷ DynamicAttribute ∷ BrokenString ∷ SetAside ∷ Locale ∷ BoxLocale
    ∷ []

-- the name that is printed
unfoldable pub name_of : Finding → List ℕ
name_of ShortOffsets = codes "16-bit-offsets"
name_of TypeFlags = codes "type-flags"
name_of Gender = codes "gender"
name_of NewerQualifier = codes "newer-qualifier"
name_of CompactEntry = codes "compact-entry"
name_of EntryFlags = codes "entry-flags"
name_of Library = codes "library"
name_of Overlayable = codes "overlayable"
name_of StagedAlias = codes "staged-alias"
name_of UnknownChunk = codes "unknown-chunk"
name_of DynamicReference = codes "dynamic-reference"
name_of DynamicAttribute = codes "dynamic-attribute"
name_of BrokenString = codes "broken-string"
name_of SetAside = codes "set-aside"
name_of Locale = codes "locale"
name_of BoxLocale = codes "box-locale"

-- An answer can differ from a device's by each but three: which resources may be overlaid is a matter of the id map, and
-- whether a locale of some device makes a difference is not known without a box.
unfoldable pub differs : Finding → Bool
differs Overlayable = false
differs SetAside = false
differs Locale = false
differs finding = true
