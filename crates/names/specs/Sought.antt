-- Names that are looked for. Contracts within the crate alone speak of this.
use Rattle.std.specs.Prelude.{◌≡◌, ℕ, ◌<◌, Bool, true, ◌⊎◌, List, [], ◌∷◌, map, filter, length, slice_index_or}
use Rattle.std.specs.List.{Contains}
use Rattle.overlay_map.specs.Table.{TableOf, rows_of}
use Rattle.overlay_map.specs.type_chunks.Row.{RowOf}
use Rattle.names.specs.declared.found.Found.TheVariants.{Nothing}
use Rattle.names.specs.declared.packages.Packages.{Packages}
use Rattle.names.specs.declared.passed.Passed.{Passed}
use Rattle.names.specs.declared.places.Places.{Places}
use Rattle.names.specs.declared.sought.Sought.{Sought}
use Rattle.names.specs.declared.wanted.Wanted.{Wanted}
use Rattle.names.specs.FoundSoFar.{also_if, also_each}
use Rattle.names.specs.Names.{id_of_row, is_wanted, wanted_of}
use Rattle.names.specs.Packages.{package_name_of}
use Rattle.names.specs.Passed.{was_passed}
use Rattle.names.specs.Places.{places_at}

-- a row that has the name
abbrev pub has_name : TableOf → Sought → RowOf → Bool
has_name table sought row = is_wanted (map package_name_of sought.packages.all.now) (wanted_of sought.wanted) table row

-- what is known of a name after one row more
abbrev pub noted : TableOf → RowOf → Sought → Sought
noted table row sought = record sought { found = also_if sought.found (has_name table sought row) (id_of_row row) }

-- what is known of a name after some rows more
abbrev pub noted_each : TableOf → List RowOf → Sought → Sought
noted_each table rows sought = record sought { found = also_each sought.found (map id_of_row (filter (has_name table sought) rows)) }

-- what is known of a name after some tables more
abbrev pub noted_in : List TableOf → Sought → Sought
noted_in [] sought = sought
noted_in (table ∷ tables) sought = noted_in tables (noted_each table (rows_of table) sought)

-- a name of which nothing is known
abbrev pub unfound : Packages → Wanted → Sought
unfound packages wanted = record { packages = packages; wanted = wanted; found = Nothing }

abbrev pub entry_name_of : Sought → List ℕ
entry_name_of one = one.wanted.name.entry_name.now

abbrev pub entry_names : List Sought → List (List ℕ)
entry_names sought = map entry_name_of sought

-- the place of each of these entries' names is among those of the name
abbrev pub ArePlacesOf : Places → List (List ℕ) → Type 0
ArePlacesOf places names = (place : ℕ) → place < length names
    → Contains (places_at places (slice_index_or names place [])) place

-- at these places a row was noted, and elsewhere it may have been
pub record IsNotedAt (table : TableOf) (row : RowOf) (places : List ℕ) (old new : List Sought) : Type 0 where
  pub same_length : length new ≡ length old
  pub there : (place : ℕ) (d : Sought) → place < length old → Contains places place → slice_index_or new place d ≡ noted table row (slice_index_or old place d)
  pub elsewhere : (place : ℕ) (d : Sought) → place < length old
      → (slice_index_or new place d ≡ slice_index_or old place d) ⊎ (slice_index_or new place d ≡ noted table row (slice_index_or old place d))

-- to note a row that was passed changes nothing
abbrev pub AreSought : TableOf → Passed → List Sought → Type 0
AreSought table passed sought = (row : RowOf) → was_passed passed row ≡ true → map (noted table row) sought ≡ sought
