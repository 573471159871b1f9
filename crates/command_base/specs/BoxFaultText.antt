-- The name of a box's fault, and the coordinate that has it.
use Rattle.std.specs.Prelude.{ℕ, List, codes}
use Rattle.cert_tree.specs.config_box.declared.box_fault.BoxFault.{BoxFault}
use Rattle.cert_tree.specs.config_box.declared.box_fault.BoxFault.TheVariants.{Syntax, Shape, Empty, TooMany, FieldRange, RegionAlone, Density, OutOfMemory}
use Rattle.answer_text.specs.NamedText.{named_coord}

unfoldable pub box_fault_text : BoxFault → List ℕ
box_fault_text Syntax = codes "Syntax"
box_fault_text Shape = codes "Shape"
box_fault_text (Empty coord) = named_coord (codes "Empty") coord
box_fault_text (TooMany coord) = named_coord (codes "TooMany") coord
box_fault_text (FieldRange coord) = named_coord (codes "FieldRange") coord
box_fault_text RegionAlone = codes "RegionAlone"
box_fault_text Density = codes "Density"
box_fault_text OutOfMemory = codes "OutOfMemory"
