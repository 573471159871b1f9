-- The name of a fault of a list of layers.
use Rattle.std.specs.Prelude.{ℕ, List, codes}
use Rattle.command_base.specs.declared.layers_fault.LayersFault.{LayersFault}
use Rattle.command_base.specs.declared.layers_fault.LayersFault.TheVariants.{Syntax, Shape, TooManyLayers, OutOfMemory}

unfoldable pub layers_fault_text : LayersFault → List ℕ
layers_fault_text Syntax = codes "Syntax"
layers_fault_text Shape = codes "Shape"
layers_fault_text TooManyLayers = codes "TooManyLayers"
layers_fault_text OutOfMemory = codes "OutOfMemory"
