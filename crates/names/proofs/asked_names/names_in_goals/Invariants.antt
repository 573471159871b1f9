use Rattle.std.proofs.Common.{map, drop}
use Rattle.std.specs.List.{flat_map}
use Rattle.names.specs.Names.{wanted_of}
use Rattle.names.specs.NamedGoal.{named_goal_of}
use Rattle.names.specs.AskedNames.{names_in_goal}
use Rattle.names.proofs.AskedSteps.{JoinsBut}
use Rattle.names.proofs.asked_names.names_in_goals.Given as goal

abbrev pub invariant-loop-goal : goal.invariant-loop-goal
invariant-loop-goal l =
    JoinsBut (λ goal. names_in_goal (named_goal_of goal)) (map wanted_of l.names.items) (drop l.goal-index l.goals) (flat_map (λ goal. names_in_goal (named_goal_of goal)) l.goals)
