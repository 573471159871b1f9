use Rattle.std.proofs.Common.{Some, sym, ap, ◌∙◌}
use Rattle.json.specs.Json.{parse_map}
use Rattle.json_tokens.specs.Standing.{value_at}
use Rattle.json_tokens.proofs.Standing.{read_some}
use Rattle.cert_tree.specs.KeptGoals.{shape_at, goal_members, goal_members_seen, goal_of_members, goal_result_seen}
use Rattle.cert_tree.specs.KeptCert.{goal_kept}
use Rattle.cert_tree.proofs.GoalsSteps.{goal_kept-of_members}
use Rattle.cert_tree.proofs.goal_list.read_goal.Goals as goal

pub returns-clause-value : goal.returns-clause-value
returns-clause-value c =
    let at = c.args.at in
    let r = c.read_goal_members.new.tokens in
    let members = c.in_ok-members.members in
    let d = read_some (goal_members at) (value_at c.args.depth c.args.tokens.now) (goal_members_seen members) r c.in_ok-members.ensures.value in
    ap (parse_map (goal_kept at)) d.1
    ∙ ap (λ kept. Some (kept, r))
    (goal_kept-of_members at d.0 members.of_id (goal_result_seen c.into_goal-goal.result) (ap (λ m. m.of_id) d.2)
    (ap (goal_of_members (shape_at at)) d.2 ∙ sym c.into_goal-goal.ensures))
