-- Where the rows of an id stand. Contracts within the crate alone speak of this.
use Rattle.std.specs.Prelude.{◌≡◌, ℕ, ◌==◌, ◌≤◌, List, ◌∷◌, ◌++◌, map, replicate, count_by, length, Option, Some, slice_get, if◌then◌else◌}
use Rattle.std.specs.List.{filter_map}
use Rattle.std.specs.Option.{option_and_then}
use Rattle.type_chunks.specs.res_value.ResId.{entry_of}
use Rattle.type_chunks.specs.type_entries.declared.checked_type.CheckedType.{CheckedType}
use Rattle.type_chunks.specs.Row.{RowOf, with_id}
use Rattle.type_chunks.specs.TypeRows.{row_at}
use Rattle.overlay_map.specs.declared.row_places.RowPlaces.{RowPlaces}
use Rattle.overlay_map.specs.Heads.{head_of}
use Rattle.overlay_map.specs.Links.{numbers_from}

-- the row of an entry in the type of a number, where there is one
abbrev pub row_in : List CheckedType → ℕ → ℕ → Option RowOf
row_in types entry type_number = option_and_then (λ found. row_at found entry) (slice_get types type_number)

-- the rows of an entry in the types of these numbers
abbrev pub rows_in : List CheckedType → ℕ → List ℕ → List RowOf
rows_in types entry numbers = filter_map (row_in types entry) numbers

-- in each of these types the entry is one of these rows, in their order
abbrev pub StandIn : List CheckedType → ℕ → List ℕ → List RowOf → Type 0
StandIn types entry numbers rows = map (row_in types entry) numbers ≡ map Some rows

-- the numbers of the types in which an id has a row
abbrev pub numbers_for : RowPlaces → ℕ → List ℕ
numbers_for places id = numbers_from places.links.items (head_of places.heads id)

-- for each id these are the types of its rows among these rows
abbrev pub ArePlacesOf : List RowOf → List CheckedType → RowPlaces → Type 0
ArePlacesOf rows types places = (id : ℕ) → StandIn types (entry_of (record { 0 = id })) (numbers_for places id) (with_id id rows)

-- no head is behind the last link
abbrev pub AreLinked : RowPlaces → Type 0
AreLinked places = (id : ℕ) → head_of places.heads id ≤ length places.links.items

-- the number of one type more stands before those of its id, and nothing else changed
abbrev pub AddsPlace : ℕ → ℕ → RowPlaces → RowPlaces → Type 0
AddsPlace id type_number old new = (other : ℕ) → numbers_for new other ≡ (if id == other then type_number ∷ numbers_for old other else numbers_for old other)

-- before the numbers of each id stands this one, as often as the id has a row among these
abbrev pub AddsType : ℕ → List RowOf → RowPlaces → RowPlaces → Type 0
AddsType type_number rows old new = (id : ℕ) → numbers_for new id ≡ replicate (count_by (λ row. row.id == id) rows) type_number ++ numbers_for old id
