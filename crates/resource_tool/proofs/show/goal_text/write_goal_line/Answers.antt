use Rattle.std.proofs.lemmas.Result.{on_ok_weaker}
use Rattle.std.proofs.KnownBytes.{Appends-trans}
use Rattle.std.proofs.Common.{◌≡◌, ℕ, List, [], ◌∷◌, ◌++◌, codes, ap, sym, subst, ◌∙◌, append_assoc}
use Rattle.std.specs.Fmt.{decimal}
use Rattle.std.specs.Io.KnownBytes.{Appends}
use Rattle.command_base.specs.cert_tree.res_value.Goal.{goal_seen}
use Rattle.resource_tool.specs.TreeText.{goal_head, goal_line}
use Rattle.resource_tool.proofs.show.goal_text.write_goal_line.Goals as goal

pub returns : goal.returns
unfolding goal_line
returns g c =
    let old = g.W.Write.contents c.args.out.now in
    let new = g.W.Write.contents c.writeln.new.self in
    let head = goal_head c.args.stack.now c.args.number (goal_seen c.args.goal.now) in
    let number : List ℕ = decimal c.args.nodes in
    let in_turn : head ++ (codes " nodes " ++ number ++ 10 ∷ []) ≡ head ++ codes " nodes " ++ number ++ 10 ∷ [] =
    sym (append_assoc head (codes " nodes " ++ number) (10 ∷ [])) ∙ ap (λ (t : List ℕ). t ++ 10 ∷ []) (sym (append_assoc head (codes " nodes ") number)) in
    on_ok_weaker c.writeln.result (λ last. subst (λ (text : List ℕ). Appends old new text) in_turn (Appends-trans _ _ _ _ _ c.in_ok-write_goal_head.ensures last)) c.writeln.ensures.bytes
