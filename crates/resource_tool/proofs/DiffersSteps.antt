-- Whether one of some notes differs, told by what they are of.
use Rattle.std.proofs.Common.{◌≡◌, ℕ, Bool, true, false, List, [], ◌∷◌, ◌++◌, Option, Some, None, Result, Ok, Err, refl, sym, ap, ◌∙◌}
use Rattle.std.specs.Prelude.{◌==◌, ◌||◌, not, if◌then◌else◌}
use Rattle.std.specs.List.{flat_map, list_any, range_with_len}
use Rattle.std.proofs.Math.Bool.{or_assoc}
use Rattle.chunk_walk.specs.Chunk.{ChunkOf, chunk_in}
use Rattle.chunk_walk.specs.Chunks.{children_of}
use Rattle.chunk_walk.specs.declared.chunk.ChunkFault.{ChunkFault}
use Rattle.resource_tool.specs.declared.survey.finding.Finding.{Finding}
use Rattle.resource_tool.specs.declared.survey.finding.Finding.TheVariants.{ShortOffsets, TypeFlags, Gender, NewerQualifier, CompactEntry, EntryFlags, Library, Overlayable, StagedAlias, UnknownChunk}
use Rattle.resource_tool.specs.declared.survey.site.Site.{Site}
use Rattle.resource_tool.specs.declared.survey.findings.Findings.{Findings}
use Rattle.resource_tool.specs.Finding.{differs}
use Rattle.resource_tool.specs.Findings.{Note, note_if, note_at_if, note_of, noted}
use Rattle.resource_tool.specs.Counted.{some_differs}
use Rattle.resource_tool.specs.Entries.{has_short_offsets, is_compact, entry_flags, offset_count, notes_of_entry_flags, notes_of_entry, notes_of_entries}
use Rattle.resource_tool.specs.Entries as entries
use Rattle.resource_tool.specs.Types.{has_gender, has_newer, config_of, notes_of_flags, notes_of_config, notes_of_type}
use Rattle.resource_tool.specs.Types as types
use Rattle.resource_tool.specs.Chunks.{table_kind, notes_of_package_child, notes_of_child, notes_of_found, notes_of_chunks}
use Rattle.resource_tool.specs.Differs.{flags_differ, entry_differs, record_differs, type_differs, package_child_differs, child_differs, found_differs, table_differs}
use Rattle.resource_tool.proofs.CountedSteps.{noted-differs}

-- ---- of any notes

pub some-append : (first others : List Note) → some_differs (first ++ others) ≡ (some_differs first || some_differs others)
some-append [] others = refl
some-append (note ∷ first) others =
    ap (λ (b : Bool). differs note.finding || b) (some-append first others) ∙ sym (or_assoc (differs note.finding) (some_differs first) (some_differs others))

-- of two parts, each with what it says
pub some-both : (first others : List Note) (a b : Bool) → some_differs first ≡ a → some_differs others ≡ b → some_differs (first ++ others) ≡ (a || b)
some-both first others a b one other =
    some-append first others ∙ ap (λ (c : Bool). c || some_differs others) one ∙ ap (λ (c : Bool). a || c) other

pub some-flat_map : {A : Type 0} (f : A → List Note) (g : A → Bool) (items : List A) → ((x : A) → some_differs (f x) ≡ g x)
    → some_differs (flat_map f items) ≡ list_any g items
some-flat_map f g [] each = refl
some-flat_map f g (x ∷ items) each = some-both (f x) (flat_map f items) (g x) (list_any g items) (each x) (some-flat_map f g items each)

-- a note of what differs
pub some-if : (b : Bool) (finding : Finding) (site : Site) → differs finding ≡ true → some_differs (note_if b finding site) ≡ b
some-if true finding site is = ap (λ (d : Bool). d || false) is
some-if false finding site is = refl

-- a note of what only informs
pub none-if : (b : Bool) (finding : Finding) (site : Site) → differs finding ≡ false → some_differs (note_if b finding site) ≡ false
none-if true finding site is = ap (λ (d : Bool). d || false) is
none-if false finding site is = refl

-- ---- of a type

differs-of_flags : (place : ℕ) (flags : Option ℕ) → some_differs (notes_of_entry_flags place flags) ≡ flags_differ flags
unfolding differs
differs-of_flags place None = refl
differs-of_flags place (Some flags) =
    some-both (note_at_if (is_compact flags) CompactEntry place) (note_at_if (entries.has_other_flags flags) EntryFlags place)
    (is_compact flags) (entries.has_other_flags flags) (some-if (is_compact flags) CompactEntry _ refl) (some-if (entries.has_other_flags flags) EntryFlags _ refl)

differs-of_entry : (chunk : ChunkOf) (position : ℕ) → some_differs (notes_of_entry chunk position) ≡ entry_differs chunk position
unfolding notes_of_entry entry_differs
differs-of_entry chunk position = differs-of_flags chunk.place (entry_flags chunk position)

differs-of_entries : (chunk : ChunkOf) → some_differs (notes_of_entries chunk) ≡ list_any (entry_differs chunk) (range_with_len 0 (offset_count chunk))
unfolding notes_of_entries
differs-of_entries chunk = some-flat_map (notes_of_entry chunk) (entry_differs chunk) (range_with_len 0 (offset_count chunk)) (differs-of_entry chunk)

differs-of_type_flags : (chunk : ChunkOf) → some_differs (notes_of_flags chunk) ≡ (has_short_offsets chunk || types.has_other_flags chunk)
unfolding notes_of_flags differs
differs-of_type_flags chunk =
    some-both (note_at_if (has_short_offsets chunk) ShortOffsets chunk.place) (note_at_if (types.has_other_flags chunk) TypeFlags chunk.place)
    (has_short_offsets chunk) (types.has_other_flags chunk) (some-if (has_short_offsets chunk) ShortOffsets _ refl) (some-if (types.has_other_flags chunk) TypeFlags _ refl)

differs-of_config : (chunk : ChunkOf) → some_differs (notes_of_config chunk) ≡ record_differs (config_of chunk)
unfolding notes_of_config differs
differs-of_config chunk =
    some-both (note_at_if (has_gender (config_of chunk)) Gender chunk.place) (note_at_if (has_newer (config_of chunk)) NewerQualifier chunk.place)
    (has_gender (config_of chunk)) (has_newer (config_of chunk)) (some-if (has_gender (config_of chunk)) Gender _ refl) (some-if (has_newer (config_of chunk)) NewerQualifier _ refl)

differs-of_type : (chunk : ChunkOf) → some_differs (notes_of_type chunk) ≡ type_differs chunk
unfolding notes_of_type type_differs
differs-of_type chunk =
    some-both (notes_of_flags chunk) (notes_of_config chunk ++ notes_of_entries chunk) _ _ (differs-of_type_flags chunk)
    (some-both (notes_of_config chunk) (notes_of_entries chunk) _ _ (differs-of_config chunk) (differs-of_entries chunk))

-- ---- of chunks

-- by what a chunk in a package is: a type, one that is known, one that says what may be overlaid, or another
by-kind : (place : ℕ) (notes : List Note) (of_type is_type is_known is_overlayable is_library is_alias : Bool) → some_differs notes ≡ of_type
    → some_differs (if is_type then notes else if is_known then [] else if is_overlayable then note_of Overlayable place else if is_library then note_of Library place
    else if is_alias then note_of StagedAlias place else note_of UnknownChunk place)
    ≡ (if is_type then of_type else not (is_known || is_overlayable))
unfolding differs
by-kind place notes of_type true is_known is_overlayable is_library is_alias given = given
by-kind place notes of_type false true is_overlayable is_library is_alias given = refl
by-kind place notes of_type false false true is_library is_alias given = refl
by-kind place notes of_type false false false true is_alias given = refl
by-kind place notes of_type false false false false true given = refl
by-kind place notes of_type false false false false false given = refl

differs-of_package_child : (found : Result ChunkOf ChunkFault) → some_differs (notes_of_package_child found) ≡ package_child_differs found
unfolding notes_of_package_child package_child_differs
differs-of_package_child (Err fault) = refl
differs-of_package_child (Ok chunk) =
    by-kind chunk.place (notes_of_type chunk) (type_differs chunk) (chunk.kind == 0x0201) (chunk.kind == 0x0001 || chunk.kind == 0x0202) (chunk.kind == 0x0204)
    (chunk.kind == 0x0203) (chunk.kind == 0x0206) (differs-of_type chunk)

-- by what a chunk in a table is: a package, a pool, or another
by-place : (place : ℕ) (notes : List Note) (of_package is_package is_pool : Bool) → some_differs notes ≡ of_package
    → some_differs (if is_package then notes else if is_pool then [] else note_of UnknownChunk place) ≡ (if is_package then of_package else not is_pool)
unfolding differs
by-place place notes of_package true is_pool given = given
by-place place notes of_package false true given = refl
by-place place notes of_package false false given = refl

differs-of_child : (found : Result ChunkOf ChunkFault) → some_differs (notes_of_child found) ≡ child_differs found
unfolding notes_of_child child_differs
differs-of_child (Err fault) = refl
differs-of_child (Ok chunk) =
    by-place chunk.place (flat_map notes_of_package_child (children_of chunk)) (list_any package_child_differs (children_of chunk)) (chunk.kind == 0x0200) (chunk.kind == 0x0001)
    (some-flat_map notes_of_package_child package_child_differs (children_of chunk) differs-of_package_child)

differs-of_found : (found : Result ChunkOf ChunkFault) → some_differs (notes_of_found found) ≡ found_differs found
differs-of_found (Ok table) = by (table.kind == table_kind)
  where
    by : (is : Bool) → some_differs (if is then flat_map notes_of_child (children_of table) else []) ≡ (if is then list_any child_differs (children_of table) else false)
    by true = some-flat_map notes_of_child child_differs (children_of table) differs-of_child
    by false = refl
differs-of_found (Err fault) = refl

pub differs-of_chunks : (bytes : List ℕ) → some_differs (notes_of_chunks bytes) ≡ table_differs bytes
unfolding notes_of_chunks table_differs
differs-of_chunks bytes = differs-of_found (chunk_in 0 bytes 12)

pub differs-after_chunks : (findings new : Findings) (bytes : List ℕ) → new ≡ noted findings (notes_of_chunks bytes) → new.differs ≡ (findings.differs || table_differs bytes)
differs-after_chunks findings new bytes after =
    ap (λ (s : Findings). s.differs) after ∙ noted-differs findings (notes_of_chunks bytes) ∙ ap (λ (b : Bool). findings.differs || b) (differs-of_chunks bytes)

pub ruleset differs_steps = (differs-after_chunks)
