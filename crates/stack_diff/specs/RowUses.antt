-- What becomes of the rows of a stack on the devices of a box.
use Rattle.std.specs.Prelude.{◌≡◌, ℕ, List, map, length, Option, Some, None, option_and_then, slice_get, Contains}
use Rattle.config_box.specs.box_answers.NumberSet.{SetOf}
use Rattle.reference_resolver.specs.overlay_map.Table.{rows_of}
use Rattle.reference_resolver.specs.overlay_map.Layer.{LayerOf}
use Rattle.stack_diff.specs.declared.row_place.RowPlace.{RowPlace}
use Rattle.stack_diff.specs.declared.row_use.RowUse.{RowUse}
use Rattle.stack_diff.specs.declared.row_use.RowUse.TheVariants.{Unmapped, Unused, Overlaid, Loaded}
use Rattle.stack_diff.specs.RowPlaces.{StandsFor}
use Rattle.stack_diff.specs.Loading.{IsLoaded, without_overlays}

-- unmapped: it stands for no id. Unused: no device loads it, and none would without the overlays. Overlaid: none does, and
-- some would. Loaded: some does. So of a row just one of these holds.
abbrev pub IsUse : List LayerOf → List SetOf → RowPlace → RowUse → Type 0
IsUse stack sets row Unmapped = (id : ℕ) → ¬ StandsFor stack row id
IsUse stack sets row Unused = ((id : ℕ) × StandsFor stack row id) × (¬ IsLoaded stack sets row) × (¬ IsLoaded (without_overlays stack) sets row)
IsUse stack sets row Overlaid = (¬ IsLoaded stack sets row) × IsLoaded (without_overlays stack) sets row
IsUse stack sets row Loaded = IsLoaded stack sets row

-- all rows are asked for, or those that may stand for one of these ids
abbrev pub IsAsked : List LayerOf → Option (List ℕ) → RowPlace → Type 0
IsAsked stack None row = Unit {0}
IsAsked stack (Some ids) row = (id : ℕ) × Contains ids id × StandsFor stack row id

-- what is told of a row: nothing where it is not asked for
abbrev pub IsToldOf : List LayerOf → List SetOf → Option (List ℕ) → RowPlace → Option RowUse → Type 0
IsToldOf stack sets asked row None = ¬ IsAsked stack asked row
IsToldOf stack sets asked row (Some becomes) = IsAsked stack asked row × IsUse stack sets row becomes

-- what stands at a row, where layer by layer something stands alongside the rows
abbrev pub told_at : List (List (Option RowUse)) → RowPlace → Option (Option RowUse)
told_at uses row = option_and_then (λ layer. slice_get layer row.place) (slice_get uses row.layer)

-- Layer by layer, alongside the rows of its table in the order of the file: what becomes of each that is asked for.
pub record AreUses (stack : List LayerOf) (sets : List SetOf) (asked : Option (List ℕ)) (uses : List (List (Option RowUse))) : Type 0 where
  pub alongside : map length uses ≡ map (λ layer. length (rows_of layer.table)) stack
  pub each : (row : RowPlace) (told : Option RowUse) → told_at uses row ≡ Some told → IsToldOf stack sets asked row told
