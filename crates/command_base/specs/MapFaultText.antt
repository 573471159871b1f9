-- The name of a fault of an id map, and the id that has it.
use Rattle.std.specs.Prelude.{ℕ, List, codes}
use Rattle.answer_text.specs.overlay_map.declared.map_fault.MapFault.{MapFault}
use Rattle.answer_text.specs.overlay_map.declared.map_fault.MapFault.TheVariants.{Syntax, Shape, Repeated, OtherPackage, OutOfMemory}
use Rattle.answer_text.specs.NamedText.{named_id}

unfoldable pub map_fault_text : MapFault → List ℕ
map_fault_text Syntax = codes "Syntax"
map_fault_text Shape = codes "Shape"
map_fault_text (Repeated target) = named_id (codes "Repeated") target.0
map_fault_text (OtherPackage target) = named_id (codes "OtherPackage") target.0
map_fault_text OutOfMemory = codes "OutOfMemory"
