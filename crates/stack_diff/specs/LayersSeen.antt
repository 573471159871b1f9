-- The layers of a stack, indexed by the ids of their rows. (Cited by contracts of this crate alone.)
use Rattle.std.specs.Prelude.{◌≡◌, ℕ, Bool, true, not, List, map, Option}
use Rattle.std.specs.Option.{option_map}
use Rattle.reference_resolver.specs.overlay_map.Layer.{LayerOf}
use Rattle.reference_resolver.specs.overlay_map.Candidates.{CandOf, candidates_of, cand_of}
use Rattle.stack_diff.specs.declared.layer_rows.LayerRows.{LayerRows}
use Rattle.stack_diff.specs.declared.look_up.Among.{Among}
use Rattle.stack_diff.specs.declared.look_up.Among.TheVariants.{AllLayers, BasesAlone}
use Rattle.stack_diff.specs.declared.look_up.LookUp.{LookUp}
use Rattle.stack_diff.specs.declared.row_place.RowPlace.{RowPlace}
use Rattle.stack_diff.specs.RowPlaces.{row_places}
use Rattle.stack_diff.specs.Loading.{loaded_among, without_overlay}

abbrev pub layer_of : LayerRows → LayerOf
layer_of layer = record { table = layer.table.now; map = option_map (λ map. map.now) layer.map }

abbrev pub layers_of : List LayerRows → List LayerOf
layers_of layers = map layer_of layers

-- a layer where overlays do something, or nothing
abbrev pub layer_among : Among → LayerOf → LayerOf
layer_among AllLayers layer = layer
layer_among BasesAlone layer = without_overlay layer

abbrev pub stack_among : Among → List LayerOf → List LayerOf
stack_among among stack = map (layer_among among) stack

-- whether a candidate is one there
abbrev pub is_kept : Among → CandOf → Bool
is_kept AllLayers candidate = true
is_kept BasesAlone candidate = not candidate.overlay

-- the candidates of an id, and where their rows stand
pub record IsLookUp (stack : List LayerOf) (id : ℕ) (look_up : LookUp) : Type 0 where
  pub candidates : map cand_of look_up.candidates.items ≡ candidates_of stack id
  pub rows : look_up.rows.items ≡ row_places stack id

-- the row that a device loads
abbrev pub loads_of : LookUp → List ℕ → Option RowPlace
loads_of look_up d = loaded_among (map cand_of look_up.candidates.items) look_up.rows.items d
