-- The rows of types that were checked.
use Rattle.std.specs.Prelude.{ℕ, List, Option, slice_get}
use Rattle.std.specs.List.{flat_map}
use Rattle.std.specs.Option.{option_and_then}
use Rattle.type_entries.specs.declared.checked_type.CheckedType.{CheckedType}
use Rattle.type_entries.specs.Row.{RowOf}
use Rattle.type_entries.specs.TypeChunk.{type_chunk_of}
use Rattle.type_entries.specs.EntryOffsets.{position_of}
use Rattle.type_entries.specs.Entries.{row_at_position, rows_from}

-- the rows of a type, in the order of their indexes
unfoldable pub rows_of_type : CheckedType → List RowOf
rows_of_type checked = rows_from (type_chunk_of checked.chunk) 0

-- the row of an index, where there is one
unfoldable pub row_at : CheckedType → ℕ → Option RowOf
row_at checked index =
    let chunk = type_chunk_of checked.chunk in
    option_and_then (λ position. slice_get (row_at_position chunk position) 0) (position_of chunk index)

-- the rows of types, one type after the other
unfoldable pub rows_of_types : List CheckedType → List RowOf
rows_of_types types = flat_map rows_of_type types

-- the rows of each of some types, one type after the other
abbrev pub rows_of_each : List (List RowOf) → List RowOf
rows_of_each types = flat_map (λ rows. rows) types
