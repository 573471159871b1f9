use Rattle.names.specs.declared.named_goal.NamedGoal.{NamedGoal}
use Rattle.names.specs.NamedGoal.{named_goal_of}
use Rattle.names.specs.AskedNames.{names_in_goal}
use Rattle.names.proofs.AskedSteps.{split_at, JoinsBut-next, JoinsBut-end}
use Rattle.names.proofs.asked_names.names_in_goals.Goals as goal

pub loop-goal-preserved : goal.loop-goal-preserved
loop-goal-preserved c =
    JoinsBut-next (λ (goal : NamedGoal). names_in_goal (named_goal_of goal)) _ _ _ _ c.goal-item.result _ c.loop-goal.invariant
    (split_at c.args.goals.now c.loop-goal.goal-index _ c.loop-goal-test.true c.goal-item.is) c.in_ok-push_names_of_goal.ensures

pub returns : goal.returns
returns c = JoinsBut-end (λ (goal : NamedGoal). names_in_goal (named_goal_of goal)) _ c.args.goals.now _ _ c.loop-goal.invariant c.loop-goal-test.false
