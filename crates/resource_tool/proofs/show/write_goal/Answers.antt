use Rattle.std.proofs.Common.{ℕ, List, ◌++◌, flat_map, length, map, sym, subst, ◌∙◌}
use Rattle.std.proofs.KnownBytes.{Appends-trans}
use Rattle.std.proofs.lemmas.List.{length-map}
use Rattle.std.proofs.lemmas.Result.{on_ok_weaker}
use Rattle.std.specs.Io.KnownBytes.{Appends}
use Rattle.command_base.specs.cert_tree.Certificate.{node_of}
use Rattle.command_base.specs.cert_tree.res_value.Goal.{goal_seen}
use Rattle.resource_tool.specs.TreeLines.{LineOf}
use Rattle.resource_tool.specs.TreeLinesSeen.{line_of}
use Rattle.resource_tool.specs.TreeText.{goal_line, goal_text, line_text}
use Rattle.resource_tool.proofs.show.write_goal.Goals as goal

pub returns : goal.returns
unfolding goal_text
returns g c =
    let old = g.W.Write.contents c.args.out.now in
    let new = g.W.Write.contents c.write_lines.new.out in
    let lines_of : List LineOf → List ℕ = λ lines. flat_map (line_text c.args.form c.args.stack.now) lines in
    let first : ℕ → List ℕ = λ count. goal_line c.args.stack.now c.args.number (goal_seen c.args.goal.now.goal) count in
    let shown : List LineOf = map line_of c.args.lines.now in
    let count = c.len.ensures ∙ c.args.goal.now.nodes.ok.0 ∙ sym (length-map c.args.goal.now.nodes.items node_of) in
    on_ok_weaker c.write_lines.result
    (λ last. subst (λ (lines : List LineOf). Appends old new (first (length (map node_of c.args.goal.now.nodes.items)) ++ lines_of lines)) c.requires
    (subst (λ (n : ℕ). Appends old new (first n ++ lines_of shown)) count (Appends-trans _ _ _ _ _ c.in_ok-write_goal_line.ensures last)))
    c.write_lines.ensures
