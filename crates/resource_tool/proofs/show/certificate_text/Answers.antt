use Rattle.std.proofs.Common.{ℕ, List, ◌++◌, length, map, ap, sym, ◌∙◌}
use Rattle.std.specs.List.{enumerate_from, flat_map}
use Rattle.std.proofs.lemmas.List.{length-map}
use Rattle.contract_words.proofs.TextSteps.{PutsAllBut-none, PutsAllBut-next, PutsAllBut-done}
use Rattle.command_base.specs.cert_tree.declared.cert.CertGoal.{CertGoal}
use Rattle.command_base.specs.cert_tree.Certificate.{goal_of}
use Rattle.resource_tool.specs.TreeText.{certificate_text, goal_text, goals_line}
use Rattle.resource_tool.proofs.GoalSteps.{goals_from-next, goals_from-end}
use Rattle.resource_tool.proofs.show.certificate_text.Goals as goal

pub loop-number-init : goal.loop-number-init
loop-number-init c = rw c.new-text.ensures.items (PutsAllBut-none _ _ _)

pub loop-number-preserved : goal.loop-number-preserved
loop-number-preserved c =
    let number = c.loop-number.number in
    let text_of : CertGoal → List ℕ = λ one. goal_text c.args.form c.args.stack.now (number, goal_of one) in
    let pushed = c.in_ok-push_goal.ensures ∙ ap (λ (one : CertGoal). c.loop-number.text.items ++ text_of one) c.index-goals-number.is in
    PutsAllBut-next _ _ _ _ _ _ _ _ c.loop-number.invariant (goals_from-next number c.args.goals.now _ c.loop-number-test.true) pushed

pub returns : goal.returns
unfolding certificate_text
returns c =
    let shown = PutsAllBut-done _ _ _ _ _ c.loop-number.invariant (goals_from-end c.loop-number.number c.args.goals.now c.loop-number-test.false) in
    let all : List ℕ = flat_map (goal_text c.args.form c.args.stack.now) (enumerate_from 0 (map goal_of c.args.goals.now)) in
    c.in_ok-push_count.ensures
    ∙ ap (λ (text : List ℕ). text ++ goals_line (length c.args.goals.now)) shown
    ∙ ap (λ (n : ℕ). all ++ goals_line n) (sym (length-map c.args.goals.now goal_of))
