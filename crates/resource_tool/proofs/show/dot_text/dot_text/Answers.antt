use Rattle.std.proofs.Common.{◌≡◌, ℕ, List, [], ◌∷◌, ◌++◌, codes, map, flat_map, ap, sym, ◌∙◌, append_assoc}
use Rattle.command_base.specs.answer_text.OnLine.{on_line}
use Rattle.command_base.specs.cert_tree.Certificate.{node_of}
use Rattle.command_base.specs.cert_tree.declared.node.Node.{Node}
use Rattle.command_base.specs.cert_tree.res_value.Goal.{goal_seen}
use Rattle.resource_tool.specs.declared.show.tree_lines.TreeLine.{TreeLine}
use Rattle.resource_tool.specs.DotText.{dot_text, head_with, statements_text}
use Rattle.resource_tool.specs.TreeLines.{LineOf, tree_lines}
use Rattle.resource_tool.specs.TreeLinesSeen.{line_of}
use Rattle.resource_tool.specs.TreeText.{goal_head}
use Rattle.resource_tool.proofs.show.dot_text.dot_text.Goals as goal

pub returns : goal.returns
unfolding dot_text
returns c =
    let head : List ℕ = head_with (on_line (goal_head c.args.stack.now c.args.number (goal_seen c.args.goal.now.goal))) in
    let text_of : List LineOf → List ℕ = λ lines. flat_map (statements_text c.args.form c.args.stack.now) lines in
    let lines : map line_of c.deref.result.now ≡ tree_lines (map node_of c.args.goal.now.nodes.items) =
    ap (λ (lines : List TreeLine). map line_of lines) c.deref.ensures.value
    ∙ c.in_ok-lines.ensures
    ∙ ap (λ (nodes : List Node). tree_lines (map node_of nodes)) c.as_slice.ensures.value in
    let shown : List ℕ = text_of (tree_lines (map node_of c.args.goal.now.nodes.items)) in
    let pushed : c.push_lines.new.text.items ≡ head ++ shown =
    c.in_ok-push_lines.ensures
    ∙ ap (λ (text : List ℕ). text ++ text_of (map line_of c.deref.result.now)) c.in_ok-text.ensures
    ∙ ap (λ (lines : List LineOf). head ++ text_of lines) lines in
    c.in_ok-extend_from_slice.ensures.items
    ∙ ap (λ (text : List ℕ). text ++ (codes "}" ++ 10 ∷ [])) pushed
    ∙ sym (append_assoc (head ++ shown) (codes "}") (10 ∷ []))
