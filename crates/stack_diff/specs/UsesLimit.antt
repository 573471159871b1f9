-- What ids take of a limit. (Cited by contracts of this crate alone.)
use Rattle.std.specs.Prelude.{◌≡◌, ◌⊎◌, ℕ, ◌+◌, ◌<◌, ◌≤◌, List, [], length, Option, Some, None}
use Rattle.config_box.specs.box_answers.NumberSet.{SetOf}
use Rattle.reference_resolver.specs.overlay_map.Layer.{LayerOf}
use Rattle.cert_maker.specs.cert_tree.Certificate.{NodeOf}
use Rattle.cert_maker.specs.Needed.{IsNeeded}
use Rattle.stack_diff.specs.declared.row_place.RowPlace.{RowPlace}
use Rattle.stack_diff.specs.declared.row_use.RowUse.{RowUse}
use Rattle.stack_diff.specs.RowPlaces.{StandsFor}
use Rattle.stack_diff.specs.Loading.{without_overlays}
use Rattle.stack_diff.specs.Parting.{IsParting, trace_of, Counts, HaveTrees}
use Rattle.stack_diff.specs.Raising.{level_at}

-- what is left after so many nodes; or more are needed
abbrev pub Leaves : (ℕ → Type 0) → (ℕ → Type 0) → ℕ → Option ℕ → Type 0
Leaves parted needed most (Some left) = (count : ℕ) × parted count × (count + left ≡ most)
Leaves parted needed most None = (count : ℕ) × needed count × (most < count)

-- a look-up where overlays do nothing, or none
abbrev pub BareParted : List LayerOf → List SetOf → ℕ → ℕ → Type 0
BareParted stack sets id count = (nodes : List NodeOf) × ((nodes ≡ []) ⊎ IsParting (trace_of (without_overlays stack) id) sets nodes) × (count ≡ length nodes)

abbrev pub BareNeeded : List LayerOf → List SetOf → ℕ → ℕ → Type 0
BareNeeded stack sets id count = (nodes : List NodeOf) × IsNeeded (trace_of (without_overlays stack) id) sets nodes × (count ≡ length nodes)

abbrev pub AsksAt : List (List (Option RowUse)) → RowPlace → Type 0
AsksAt cells row = 1 ≤ level_at cells row

-- no row that may stand for an id is asked for
abbrev pub NoneAsked : List LayerOf → List (List (Option RowUse)) → ℕ → Type 0
NoneAsked stack cells id = (row : RowPlace) → StandsFor stack row id → ¬ AsksAt cells row

abbrev pub IdLeaves : List LayerOf → List SetOf → List (List (Option RowUse)) → ℕ → ℕ → Option ℕ → Type 0
IdLeaves stack sets cells id =
    Leaves (Counts (λ trace. IsParting trace sets) stack (AsksAt cells) (NoneAsked stack cells) id) (Counts (λ trace. IsNeeded trace sets) stack (AsksAt cells) (λ id. Unit {0}) id)

abbrev pub IdsLeave : List LayerOf → List SetOf → List (List (Option RowUse)) → List ℕ → ℕ → Option ℕ → Type 0
IdsLeave stack sets cells ids =
    Leaves (HaveTrees (λ trace. IsParting trace sets) stack (AsksAt cells) (NoneAsked stack cells) ids) (HaveTrees (λ trace. IsNeeded trace sets) stack (AsksAt cells) (λ id. Unit {0}) ids)
