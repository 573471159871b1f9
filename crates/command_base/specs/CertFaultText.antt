-- The name of a certificate's fault, and the goal and the node that have it.
use Rattle.std.specs.Prelude.{ℕ, List, ◌++◌, codes}
use Rattle.std.specs.Fmt.{decimal}
use Rattle.cert_tree.specs.declared.cert_fault.CertFault.{CertFault}
use Rattle.cert_tree.specs.declared.cert_fault.CertFault.TheVariants.{Syntax, Version, Shape, TooManyNodes, OutOfMemory}

-- `Shape GOAL NODE`
unfoldable pub node_shape_text : ℕ → ℕ → List ℕ
node_shape_text goal node = codes "Shape " ++ decimal goal ++ codes " " ++ decimal node

unfoldable pub cert_fault_text : CertFault → List ℕ
cert_fault_text Syntax = codes "Syntax"
cert_fault_text Version = codes "Version"
cert_fault_text (Shape goal node) = node_shape_text goal node
cert_fault_text TooManyNodes = codes "TooManyNodes"
cert_fault_text OutOfMemory = codes "OutOfMemory"
