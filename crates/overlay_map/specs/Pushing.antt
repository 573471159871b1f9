-- Pushing a layer onto a stack.
use Rattle.std.specs.Prelude.{◌≡◌, ℕ, ◌<◌, ◌^◌, List, [], ◌∷◌, ◌++◌, length, Some, None, Result, Ok, Err}
use Rattle.overlay_map.specs.Table.{TableOf, rows_of}
use Rattle.overlay_map.specs.IdMap.{MapOf}
use Rattle.overlay_map.specs.Layer.{LayerOf, most_layers}
use Rattle.overlay_map.specs.declared.stack_fault.StackFault.{StackFault}
use Rattle.overlay_map.specs.declared.stack_fault.StackFault.TheVariants.{TooManyLayers, OutOfMemory}

abbrev pub base_of : TableOf → LayerOf
base_of table = record { table = table; map = None }

abbrev pub overlay_of : TableOf → MapOf → LayerOf
overlay_of table map = record { table = table; map = Some map }

-- A layer was refused with this fault: since 64 layers stood, or, where fewer stood, since memory ran
-- out. The stack, which was old and is new, is unchanged.
abbrev pub RefusesLayer : List LayerOf → List LayerOf → StackFault → Type 0
RefusesLayer old new TooManyLayers = (length old ≡ most_layers) × (new ≡ old)
RefusesLayer old new OutOfMemory = (length old < most_layers) × (new ≡ old)

-- A call pushed a layer onto a stack, which was old and is new: it stands behind those that stood. Or it
-- refused the layer; `fault_of` is the fault that its error has.
abbrev pub PushesLayer : {E : Type 0} → (E → StackFault) → LayerOf → List LayerOf → List LayerOf → Result (Unit {0}) E → Type 0
PushesLayer fault_of layer old new (Ok _) = (length old < most_layers) × (new ≡ old ++ layer ∷ [])
PushesLayer fault_of layer old new (Err refusal) = RefusesLayer old new (fault_of refusal)

-- A table that is to be pushed is indexed, and there is room for its layer.
pub record IsIndexed (old : List LayerOf) (len capacity : ℕ) (table indexed : TableOf) : Type 0 where
  pub room : len < capacity
  pub below : length old < most_layers
  pub same : indexed ≡ table
  pub few_rows : length (rows_of indexed) < 2 ^ 92

-- It is refused, and handed back.
pub record IsHandedBack (old new : List LayerOf) (fault : StackFault) (table handed : TableOf) : Type 0 where
  pub refused : RefusesLayer old new fault
  pub back : handed ≡ table
