-- How the rows of types go on.
use Rattle.std.proofs.Common.{◌≡◌, ℕ, zero, suc, ◌+◌, ◌-◌, ◌<◌, ◌≤◌, Bool, true, false, List, [], ◌∷◌, ◌++◌, length, length-append, Result, Ok, Err, refl, sym, ap, subst, ◌∙◌, arith}
use Rattle.std.specs.Prelude.{cond, nat_le, if◌then◌else◌}
use Rattle.std.specs.List.{range_with_len, flat_map}
use Rattle.std.proofs.lemmas.Bool.Decides.{nat_tests}
use Rattle.std.proofs.lemmas.List.Sums.{sum_by-append}
use Rattle.res_value.specs.Cell.{CellOf}
use Rattle.type_entries.specs.declared.fault.TableFault.{TableFault}
use Rattle.type_entries.specs.declared.checked_type.CheckedType.{CheckedType}
use Rattle.config_record.specs.Record.{record_bytes, is_set_aside}
use Rattle.type_entries.specs.Row.{RowOf, set_aside_count}
use Rattle.type_entries.specs.TypeChunk.{TypeChunkOf, type_chunk_of}
use Rattle.type_entries.specs.Entry.{is_row, row_of_entry, rows_of_entry, rows_of_entry_at}
use Rattle.type_entries.specs.EntryOffsets.{index_of, is_empty, offset_of}
use Rattle.type_entries.specs.Entries.{AreEmpty, or_none, row_at_position, rows_from, held_at}
use Rattle.type_entries.specs.TypeRows.{rows_of_type, rows_of_types}
use Rattle.type_entries.proofs.EntrySteps.{rows_with, entry_at-with}
use Rattle.type_entries.proofs.EntriesSteps.{empty-read}

-- ---- the rows of a type

pub rows_from-next : (chunk : TypeChunkOf) (position : ℕ) → position < chunk.offset_count → rows_from chunk position ≡ row_at_position chunk position ++ rows_from chunk (position + 1)
unfolding rows_from
rows_from-next chunk position below =
    let left : chunk.offset_count - position ≡ suc (chunk.offset_count - (position + 1)) = omega arith in rw left refl

pub rows_from-end : (chunk : TypeChunkOf) (position : ℕ) → chunk.offset_count ≤ position → rows_from chunk position ≡ []
unfolding rows_from
rows_from-end chunk position past = let left : chunk.offset_count - position ≡ 0 = omega arith in rw left refl

empty-row : (chunk : TypeChunkOf) (position : ℕ) → is_empty chunk position ≡ true → row_at_position chunk position ≡ []
unfolding row_at_position
empty-row chunk position none = ap or_none (empty-read chunk position none)

-- a run of positions without entries
skip : (chunk : TypeChunkOf) (count from : ℕ) → from + count ≤ chunk.offset_count → AreEmpty chunk from (from + count) → rows_from chunk from ≡ rows_from chunk (from + count)
skip chunk zero from within empty = ap (rows_from chunk) (omega arith)
skip chunk (suc count) from within empty =
    rows_from-next chunk from (omega arith)
    ∙ ap (λ (rows : List RowOf). rows ++ rows_from chunk (from + 1)) (empty-row chunk from (empty from (omega arith) (omega arith)))
    ∙ skip chunk count (from + 1) (omega arith) (λ position above below. empty position (omega arith) (omega arith))
    ∙ ap (rows_from chunk) (omega arith)

pub rows_from-empty : (chunk : TypeChunkOf) (from behind : ℕ) → from ≤ behind → behind ≤ chunk.offset_count → AreEmpty chunk from behind → rows_from chunk from ≡ rows_from chunk behind
rows_from-empty chunk from behind ordered within empty =
    let ends : from + (behind - from) ≡ behind = omega arith in
    skip chunk (behind - from) from (omega arith) (λ position above below. empty position above (omega arith)) ∙ ap (rows_from chunk) ends

pub rows_from-none : (chunk : TypeChunkOf) (from : ℕ) → AreEmpty chunk from chunk.offset_count → rows_from chunk from ≡ []
rows_from-none chunk from empty = by (nat_le from chunk.offset_count) refl
  where
    by : (b : Bool) → nat_le from chunk.offset_count ≡ b → rows_from chunk from ≡ []
    by true e = rows_from-empty chunk from chunk.offset_count (grind (arith, nat_tests)) (omega arith) empty ∙ rows_from-end chunk chunk.offset_count (omega arith)
    by false e = rows_from-end chunk from (grind (arith, nat_tests))

-- the entry behind a run of positions without entries is a row
pub rows_from-row : (chunk : TypeChunkOf) (from position : ℕ) (row : RowOf) → from ≤ position → position < chunk.offset_count → AreEmpty chunk from position → row ∷ [] ≡ row_at_position chunk position
    → rows_from chunk from ≡ row ∷ rows_from chunk (position + 1)
rows_from-row chunk from position row ordered within empty one =
    rows_from-empty chunk from position ordered (omega arith) empty ∙ rows_from-next chunk position within ∙ ap (λ (rows : List RowOf). rows ++ rows_from chunk (position + 1)) (sym one)

-- the entry behind a run of positions without entries is no row
pub rows_from-no_row : (chunk : TypeChunkOf) (from position : ℕ) → from ≤ position → position < chunk.offset_count → AreEmpty chunk from position → [] ≡ row_at_position chunk position
    → rows_from chunk from ≡ rows_from chunk (position + 1)
rows_from-no_row chunk from position ordered within empty none =
    rows_from-empty chunk from position ordered (omega arith) empty ∙ rows_from-next chunk position within ∙ ap (λ (rows : List RowOf). rows ++ rows_from chunk (position + 1)) (sym none)

pub ruleset type_rows_steps = (rows_from-none)

-- ---- the rows of types

pub rows_of_types-next : (first : CheckedType) (others : List CheckedType) → rows_of_types (first ∷ others) ≡ rows_of_type first ++ rows_of_types others
unfolding rows_of_types
rows_of_types-next first others = refl

pub rows_of_types-none : rows_of_types [] ≡ []
unfolding rows_of_types
rows_of_types-none = refl

-- ---- what holds of the rows of an entry: there is one at most

module _ (Holds : List RowOf → Type 0) (chunk : TypeChunkOf) (none : Holds []) (one : (index at : ℕ) (cell : CellOf) → Holds (row_of_entry chunk index at cell ∷ [])) where
  abbrev of_result : Result (List RowOf) TableFault → Type 0
  of_result rows = Holds (or_none rows)

  row-or-none : (is : Bool) (index at : ℕ) (cell : CellOf) → of_result (Ok (if is then row_of_entry chunk index at cell ∷ [] else []))
  row-or-none true index at cell = one index at cell
  row-or-none false index at cell = none

  of_held : (index at : ℕ) (held : Result CellOf TableFault) → of_result (rows_with chunk index at held)
  of_held index at (Ok cell) = row-or-none (is_row chunk index) index at cell
  of_held index at (Err fault) = none

  of_read : (index at : ℕ) (read : Result (List RowOf) TableFault) → rows_of_entry_at chunk index at ≡ read → of_result read
  of_read index at (Ok rows) e = subst of_result (sym (entry_at-with chunk index at (rw e refl)) ∙ e) (of_held index at (held_at chunk at))
  of_read index at (Err fault) e = none

  of_position : (position : ℕ) → Holds (row_at_position chunk position)
  unfolding row_at_position rows_of_entry
  of_position position = by (is_empty chunk position)
    where
      at : ℕ
      at = chunk.entries_start + offset_of chunk position

      by : (empty : Bool) → of_result (if empty then Ok [] else rows_of_entry_at chunk (index_of chunk position) at)
      by true = none
      by false = of_read (index_of chunk position) at (rows_of_entry_at chunk (index_of chunk position) at) refl

-- ---- how many they are

length-row_at_position : (chunk : TypeChunkOf) (position : ℕ) → length (row_at_position chunk position) ≤ 1
length-row_at_position chunk position = of_position (λ rows. length rows ≤ 1) chunk (omega arith) (λ index at cell. omega arith) position

length-rows_from : (chunk : TypeChunkOf) (n position : ℕ) → length (flat_map (row_at_position chunk) (range_with_len position n)) ≤ n
length-rows_from chunk zero position = omega arith
length-rows_from chunk (suc n) position =
    let more = length-append (row_at_position chunk position) (flat_map (row_at_position chunk) (range_with_len (position + 1) n)) in
    rw more (omega (arith, length-row_at_position chunk position, length-rows_from chunk n (position + 1)))

pub length-rows_of_chunk : (chunk : TypeChunkOf) → length (rows_from chunk 0) ≤ chunk.offset_count
unfolding rows_from
length-rows_of_chunk chunk = omega (arith, length-rows_from chunk (chunk.offset_count - 0) 0)

-- ---- how many are set aside: all have the record of their type

-- how many of so many rows are set aside
abbrev share : Bool → ℕ → ℕ
share aside n = cond aside n 0

one_aside : (aside : Bool) (row : RowOf) → is_set_aside row.config ≡ aside → set_aside_count (row ∷ []) ≡ share aside 1
one_aside true row is = rw is refl
one_aside false row is = rw is refl

share-add : (aside : Bool) (m n : ℕ) → share aside m + share aside n ≡ share aside (m + n)
share-add true m n = refl
share-add false m n = refl

aside_from : (aside : Bool) (chunk : TypeChunkOf) (n position : ℕ) → is_set_aside chunk.config ≡ aside
    → set_aside_count (flat_map (row_at_position chunk) (range_with_len position n)) ≡ share aside (length (flat_map (row_at_position chunk) (range_with_len position n)))
aside_from true chunk zero position is = refl
aside_from false chunk zero position is = refl
aside_from aside chunk (suc n) position is =
    let here = row_at_position chunk position in
    let behind = flat_map (row_at_position chunk) (range_with_len (position + 1) n) in
    let none : share aside 0 ≡ 0 = by_none aside in
    let first = of_position (λ rows. set_aside_count rows ≡ share aside (length rows)) chunk (sym none) (λ index at cell. one_aside aside (row_of_entry chunk index at cell) is) position in
    sum_by-append (λ row. cond (is_set_aside row.config) 1 0) here behind
    ∙ rw (first, aside_from aside chunk n (position + 1) is, length-append here behind) (share-add aside (length here) (length behind))
  where
    by_none : (aside : Bool) → share aside 0 ≡ 0
    by_none true = refl
    by_none false = refl

aside_of_type : (aside : Bool) (checked : CheckedType) → is_set_aside (record_bytes checked.chunk.config) ≡ aside
    → set_aside_count (rows_of_type checked) ≡ share aside (length (rows_of_type checked))
unfolding rows_of_type rows_from
aside_of_type aside checked is = aside_from aside (type_chunk_of checked.chunk) (checked.chunk.offset_count - 0) 0 is

pub none_aside : (checked : CheckedType) → is_set_aside (record_bytes checked.chunk.config) ≡ false → set_aside_count (rows_of_type checked) ≡ 0
none_aside = aside_of_type false

pub all_aside : (checked : CheckedType) → is_set_aside (record_bytes checked.chunk.config) ≡ true → set_aside_count (rows_of_type checked) ≡ length (rows_of_type checked)
all_aside = aside_of_type true

pub length-rows_of_type : (checked : CheckedType) → length (rows_of_type checked) ≤ checked.chunk.offset_count
unfolding rows_of_type
length-rows_of_type checked = length-rows_of_chunk (type_chunk_of checked.chunk)

pub ruleset aside_steps = (none_aside, length-rows_of_type)
