-- How rows are raised to their uses. (Cited by contracts of this crate alone.)
use Rattle.std.specs.Prelude.{◌≡◌, ◌⊎◌, ◌↔◌, ℕ, zero, suc, ◌≤◌, nat_le, max, ◌&&◌, Bool, true, false, List, [], ◌∷◌, map, length, replicate, Option, Some, slice_get, Contains}
use Rattle.std.specs.Option.{option_map_or}
use Rattle.config_box.specs.box_answers.NumberSet.{SetOf}
use Rattle.reference_resolver.specs.overlay_map.Table.{rows_of}
use Rattle.reference_resolver.specs.overlay_map.Layer.{LayerOf}
use Rattle.stack_diff.specs.declared.row_place.RowPlace.{RowPlace}
use Rattle.stack_diff.specs.declared.row_use.RowUse.{RowUse}
use Rattle.stack_diff.specs.declared.row_use.RowUse.TheVariants.{Unmapped, Unused, Overlaid, Loaded}
use Rattle.stack_diff.specs.declared.uses.Uses.{Uses}
use Rattle.stack_diff.specs.RowPlaces.{StandsFor}
use Rattle.stack_diff.specs.RowUses.{told_at, IsAsked}
use Rattle.stack_diff.specs.Loading.{IsLoadedBy, loaded_row, without_overlays}

-- ---- levels

-- the later ones are more
abbrev pub level_of : RowUse → ℕ
level_of Unmapped = 1
level_of Unused = 2
level_of Overlaid = 3
level_of Loaded = 4

-- that of a row; 0 where it is not asked for, or there is none
abbrev pub level_told : Option RowUse → ℕ
level_told told = option_map_or level_of told 0

abbrev pub level_in : List (Option RowUse) → ℕ → ℕ
level_in layer place = option_map_or level_told (slice_get layer place) 0

abbrev pub cells_of : Uses → List (List (Option RowUse))
cells_of uses = map (λ layer. layer.items) uses.layers.items

abbrev pub level_at : List (List (Option RowUse)) → RowPlace → ℕ
level_at cells row = option_map_or (λ layer. level_in layer row.place) (slice_get cells row.layer) 0

-- a row is asked for; and it is not known to be loaded
abbrev pub is_asked_at : List (List (Option RowUse)) → RowPlace → Bool
is_asked_at cells row = nat_le 1 (level_at cells row)

abbrev pub is_open_at : List (List (Option RowUse)) → RowPlace → Bool
is_open_at cells row = nat_le 1 (level_at cells row) && nat_le (level_at cells row) 3

-- What is asked for is raised to a level, if it is lower; what is not asked for only where this asks for it.
abbrev pub raised : Bool → ℕ → ℕ → ℕ
raised asks (suc level) to = max (suc level) to
raised true zero to = to
raised false zero to = zero

-- ---- what is raised, and what is still to be

-- a row has a level at least, or is asked for and is still to be raised to it
abbrev pub Reaches : List (List (Option RowUse)) → (RowPlace → ℕ → Type 0) → RowPlace → ℕ → Type 0
Reaches cells more row level = (level ≤ level_at cells row) ⊎ ((1 ≤ level_at cells row) × more row level)

-- each row reaches the same levels as before
pub record KeepsReach (old : List (List (Option RowUse))) (old_more : RowPlace → ℕ → Type 0) (new : List (List (Option RowUse))) (new_more : RowPlace → ℕ → Type 0) : Type 0 where
  pub alongside : map length new ≡ map length old
  pub reach : (row : RowPlace) (level : ℕ) → Reaches new new_more row level ↔ Reaches old old_more row level

-- nothing more
abbrev pub no_more : RowPlace → ℕ → Type 0
no_more row level = ⊥

-- one row, up to a level
abbrev pub one_more : RowPlace → ℕ → RowPlace → ℕ → Type 0
one_more one to row level = (row ≡ one) × (level ≤ to)

-- rows that stand for an id
abbrev pub rows_more : List RowPlace → RowPlace → ℕ → Type 0
rows_more rows row level = Contains rows row × (level ≤ 2)

-- some member of one of these boxes loads a row
abbrev pub IsLoadedInOne : (List ℕ → Option RowPlace) → RowPlace → List (List SetOf) → Type 0
IsLoadedInOne loads row [] = ⊥
IsLoadedInOne loads row (sets ∷ boxes) = IsLoadedBy loads row sets ⊎ IsLoadedInOne loads row boxes

-- the rows that some of their members load, up to a level
abbrev pub loaded_more : (List ℕ → Option RowPlace) → ℕ → List (List SetOf) → RowPlace → ℕ → Type 0
loaded_more loads to boxes row level = IsLoadedInOne loads row boxes × (level ≤ to)

-- of an id the rows that some member would load without overlays
abbrev pub bare_more : List LayerOf → List SetOf → ℕ → RowPlace → ℕ → Type 0
bare_more stack sets id row level = IsLoadedBy (loaded_row (without_overlays stack) id) row sets × (level ≤ 3)

-- of an id the rows that may stand for it, those that some member loads, and those that some would load without overlays
pub data id_more (stack : List LayerOf) (sets : List SetOf) (id : ℕ) (row : RowPlace) (level : ℕ) : Type 0 where
  stands : StandsFor stack row id → level ≤ 2 → id_more stack sets id row level
  bare : IsLoadedBy (loaded_row (without_overlays stack) id) row sets → level ≤ 3 → id_more stack sets id row level
  loaded : IsLoadedBy (loaded_row stack id) row sets → level ≤ 4 → id_more stack sets id row level

-- the same of some ids
abbrev pub ids_more : List LayerOf → List SetOf → List ℕ → RowPlace → ℕ → Type 0
ids_more stack sets [] row level = ⊥
ids_more stack sets (id ∷ ids) row level = id_more stack sets id row level ⊎ ids_more stack sets ids row level

-- ---- before anything is looked up

-- the same of all rows
abbrev pub all_told : List LayerOf → Option RowUse → List (List (Option RowUse))
all_told layers told = map (λ layer. replicate (length (rows_of layer.table)) told) layers

-- it stands at some level
abbrev pub IsAtLevel : Option (Option RowUse) → ℕ → Type 0
IsAtLevel at level = (found : Option RowUse) × (at ≡ Some found) × (level_told found ≡ level)

-- of what there is these rows are asked for, and what was asked for before; nothing is raised further
pub record AsksFor (rows : List RowPlace) (old new : List (List (Option RowUse))) : Type 0 where
  pub alongside : map length new ≡ map length old
  pub asked_for : (row : RowPlace) (told : Option RowUse) → told_at new row ≡ Some told → (1 ≤ level_told told) ↔ ((1 ≤ level_at old row) ⊎ Contains rows row)
  pub low : (row : RowPlace) → level_at old row ≤ 1 → level_at new row ≤ 1

-- what is asked for of the rows of a stack, and no more
pub record IsBegun (stack : List LayerOf) (asked : Option (List ℕ)) (cells : List (List (Option RowUse))) : Type 0 where
  pub alongside : map length cells ≡ map (λ layer. length (rows_of layer.table)) stack
  pub asked_for : (row : RowPlace) (told : Option RowUse) → told_at cells row ≡ Some told → (1 ≤ level_at cells row) ↔ IsAsked stack asked row
  pub low : (row : RowPlace) → level_at cells row ≤ 1
