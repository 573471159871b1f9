-- A line of a tree is its parts.
use Rattle.std.proofs.Common.{◌≡◌, ℕ, List, [], ◌∷◌, ◌++◌, codes, refl, ap, append_assoc}
use Rattle.std.specs.Fmt.{decimal}
use Rattle.notation.specs.declared.form.Form.{Form}
use Rattle.command_base.specs.overlay_map.Layer.{LayerOf}
use Rattle.resource_tool.specs.LineParts.{front_text, shown_text}
use Rattle.resource_tool.specs.TreeLines.{LineOf, NodeAt, Unreached, Missing}
use Rattle.resource_tool.specs.TreeText.{if_text, line_text, missing_line, node_label, node_line, node_text, path_text, unreached_line}

pub line-parts : (form : Form) (stack : List LayerOf) (line : LineOf) → front_text line ++ shown_text form stack line ++ 10 ∷ [] ≡ line_text form stack line
unfolding front_text shown_text line_text node_line unreached_line missing_line node_text
line-parts form stack (NodeAt number path node) =
    ap (λ (t : List ℕ). t ++ 10 ∷ []) (append_assoc (decimal number ++ 9 ∷ [] ++ path_text path) (if_text node) (node_label form stack node))
line-parts form stack (Unreached number node) =
    ap (λ (t : List ℕ). t ++ 10 ∷ []) (append_assoc (decimal number ++ 9 ∷ codes "not reached: ") (if_text node) (node_label form stack node))
line-parts form stack (Missing path) = refl
