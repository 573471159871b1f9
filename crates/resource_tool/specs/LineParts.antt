-- A line of a tree in parts. (Cited by contracts of this crate alone.)
use Rattle.std.specs.Prelude.{ℕ, List, [], ◌∷◌, ◌++◌, codes}
use Rattle.std.specs.Fmt.{decimal}
use Rattle.notation.specs.declared.form.Form.{Form}
use Rattle.command_base.specs.overlay_map.Layer.{LayerOf}
use Rattle.resource_tool.specs.TreeLines.{LineOf, NodeAt, Unreached, Missing}
use Rattle.resource_tool.specs.TreeText.{if_text, node_label, path_text}

-- what stands before the node
unfoldable pub front_text : LineOf → List ℕ
front_text (NodeAt number path node) = decimal number ++ 9 ∷ [] ++ path_text path ++ if_text node
front_text (Unreached number node) = decimal number ++ 9 ∷ codes "not reached: " ++ if_text node
front_text (Missing path) = 9 ∷ [] ++ path_text path

-- the node, or that there is none
unfoldable pub shown_text : Form → List LayerOf → LineOf → List ℕ
shown_text form stack (NodeAt number path node) = node_label form stack node
shown_text form stack (Unreached number node) = node_label form stack node
shown_text form stack (Missing path) = codes "ends early"
