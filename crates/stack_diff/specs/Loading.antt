-- Which rows do the devices of a box load?
use Rattle.std.specs.Prelude.{◌≡◌, ℕ, List, [], map, Option, Some, None, option_and_then, slice_get}
use Rattle.config_box.specs.box_answers.NumberSet.{SetOf}
use Rattle.config_box.specs.box_answers.Members.{IsMember}
use Rattle.reference_resolver.specs.overlay_map.IdMap.{MapOf}
use Rattle.reference_resolver.specs.overlay_map.Layer.{LayerOf}
use Rattle.reference_resolver.specs.overlay_map.Candidates.{CandOf, candidates_of}
use Rattle.reference_resolver.specs.Takers.{picked_at}
use Rattle.stack_diff.specs.declared.row_place.RowPlace.{RowPlace}
use Rattle.stack_diff.specs.RowPlaces.{row_places}

-- the row of the candidate that a device selects, where candidates are of these rows
abbrev pub loaded_among : List CandOf → List RowPlace → List ℕ → Option RowPlace
loaded_among candidates rows d = option_and_then (slice_get rows) (picked_at candidates d)

-- the row that a device loads for an id, if it loads one
unfoldable pub loaded_row : List LayerOf → ℕ → List ℕ → Option RowPlace
loaded_row stack id d = loaded_among (candidates_of stack id) (row_places stack id) d

-- some member of a box loads a row
abbrev pub IsLoadedBy : (List ℕ → Option RowPlace) → RowPlace → List SetOf → Type 0
IsLoadedBy loads row sets = (d : List ℕ) × IsMember sets d × (loads d ≡ Some row)

-- some member loads it for some id
abbrev pub IsLoaded : List LayerOf → List SetOf → RowPlace → Type 0
IsLoaded stack sets row = (id : ℕ) × IsLoadedBy (loaded_row stack id) row sets

abbrev without_map : Option MapOf → Option MapOf
without_map None = None
without_map (Some map) = Some []

-- a layer; of an overlay no row stands for any id
abbrev pub without_overlay : LayerOf → LayerOf
without_overlay layer = record { table = layer.table; map = without_map layer.map }

-- a stack as it is where its overlays do nothing
abbrev pub without_overlays : List LayerOf → List LayerOf
without_overlays stack = map without_overlay stack
