-- Each row of a type stands where its id says.
use Rattle.std.proofs.Common.{◌≡◌, ℕ, zero, suc, ◌+◌, ◌-◌, ◌^◌, ◌<◌, ◌≤◌, Bool, true, false, List, [], ◌∷◌, Some, Result, Ok, Err, refl, sym, subst, ◌∙◌, arith}
use Rattle.std.specs.Prelude.{◌%◌, All, if◌then◌else◌}
use Rattle.std.specs.List.{range_with_len, flat_map}
use Rattle.std.proofs.lemmas.Bool.Decides.{nat_tests}
use Rattle.std.proofs.lemmas.List.Elements.{All-nil, All-cons, All-append}
use Rattle.res_value.specs.Cell.{CellOf}
use Rattle.res_value.specs.ResId.{id_of_parts}
use Rattle.type_entries.specs.declared.fault.TableFault.{TableFault}
use Rattle.type_entries.specs.declared.checked_type.CheckedType.{CheckedType}
use Rattle.type_entries.specs.Row.{RowOf}
use Rattle.type_entries.specs.TypeChunk.{TypeChunkOf, type_chunk_of}
use Rattle.type_entries.specs.Entry.{is_row, row_of_entry, rows_of_entry, rows_of_entry_at}
use Rattle.type_entries.specs.EntryOffsets.{index_of, is_empty, offset_of, position_of}
use Rattle.type_entries.specs.Entries.{or_none, row_at_position, rows_from, held_at}
use Rattle.type_entries.specs.TypeRows.{rows_of_type, row_at}
use Rattle.type_entries.proofs.EntryOffsetSteps.{position_of-found}
use Rattle.type_entries.proofs.EntrySteps.{rows_with, entry_at-with}

-- an entry has no row, or one whose id ends with its index
data IsOwn (index : ℕ) (rows : List RowOf) : Type 0 where
  none_own : rows ≡ [] → IsOwn index rows
  one_own : (row : RowOf) → row.id % 2 ^ 16 ≡ index → rows ≡ row ∷ [] → IsOwn index rows

entry_back : (p t index : ℕ) → index < 0x1_0000 → id_of_parts p t index % 2 ^ 16 ≡ index
entry_back p t index below = omega arith

row-own : (is : Bool) (index : ℕ) (row : RowOf) → (is ≡ true → row.id % 2 ^ 16 ≡ index) → IsOwn index (or_none (Ok (if is then row ∷ [] else [])))
row-own true index row own = one_own row (own refl) refl
row-own false index row own = none_own refl

is-row-below : (chunk : TypeChunkOf) (index : ℕ) → is_row chunk index ≡ true → index < 0x1_0000
is-row-below chunk index is = grind (arith, nat_tests)

of_held : (chunk : TypeChunkOf) (index at : ℕ) (held : Result CellOf TableFault) → IsOwn index (or_none (rows_with chunk index at held))
of_held chunk index at (Ok cell) =
    row-own (is_row chunk index) index (row_of_entry chunk index at cell) (λ is. entry_back chunk.owner.id chunk.id index (is-row-below chunk index is))
of_held chunk index at (Err fault) = none_own refl

of_read : (chunk : TypeChunkOf) (index at : ℕ) (read : Result (List RowOf) TableFault) → rows_of_entry_at chunk index at ≡ read → IsOwn index (or_none read)
of_read chunk index at (Ok rows) e = subst (λ r. IsOwn index (or_none r)) (sym (entry_at-with chunk index at (rw e refl)) ∙ e) (of_held chunk index at (held_at chunk at))
of_read chunk index at (Err fault) e = none_own refl

row_at_position-own : (chunk : TypeChunkOf) (position : ℕ) → IsOwn (index_of chunk position) (row_at_position chunk position)
unfolding row_at_position rows_of_entry
row_at_position-own chunk position = by (is_empty chunk position)
  where
    at : ℕ
    at = chunk.entries_start + offset_of chunk position

    by : (none : Bool) → IsOwn (index_of chunk position) (or_none (if none then Ok [] else rows_of_entry_at chunk (index_of chunk position) at))
    by true = none_own refl
    by false = of_read chunk (index_of chunk position) at (rows_of_entry_at chunk (index_of chunk position) at) refl

-- the row of its id's index is the row itself
abbrev pub StandsInType : CheckedType → RowOf → Type 0
StandsInType checked row = row_at checked (row.id % 2 ^ 16) ≡ Some row

module _ (checked : CheckedType) where
  abbrev chunk : TypeChunkOf
  chunk = type_chunk_of checked.chunk

  stands : (position : ℕ) → position < chunk.offset_count → (rows : List RowOf) → row_at_position chunk position ≡ rows → IsOwn (index_of chunk position) rows → All (StandsInType checked) rows
  unfolding row_at
  stands position within rows is (none_own none) = rw none (All-nil (StandsInType checked))
  stands position within rows is (one_own row own one) =
      let found : position_of chunk (index_of chunk position) ≡ Some position = position_of-found chunk (index_of chunk position) position checked.checked.rise within refl in
      rw one (All-cons (StandsInType checked) row [] (rw (own, found, is, one) refl) (All-nil (StandsInType checked)))

  all-stand : (n position : ℕ) → position + n ≤ chunk.offset_count → All (StandsInType checked) (flat_map (row_at_position chunk) (range_with_len position n))
  all-stand zero position within = All-nil (StandsInType checked)
  all-stand (suc n) position within =
      All-append (StandsInType checked) (row_at_position chunk position) (flat_map (row_at_position chunk) (range_with_len (position + 1) n))
      (stands position (omega arith) (row_at_position chunk position) refl (row_at_position-own chunk position)) (all-stand n (position + 1) (omega arith))

  pub rows-stand : All (StandsInType checked) (rows_of_type checked)
  unfolding rows_of_type rows_from
  rows-stand = all-stand (checked.chunk.offset_count - 0) 0 (omega arith)
