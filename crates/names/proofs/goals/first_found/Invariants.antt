use Rattle.std.proofs.Common.{List, map, drop}
use Rattle.std.specs.List.{flat_map}
use Rattle.overlay_map.specs.Layer.{LayerOf}
use Rattle.res_value.specs.Goal.{goal_seen}
use Rattle.names.specs.NamedGoal.{named_goal_of}
use Rattle.names.specs.NamedGoals.{goals_of_word, goals_named}
use Rattle.names.specs.AskedNames.{names_in_goal}
use Rattle.names.specs.Finder.{Tells}
use Rattle.names.proofs.FirstSteps.{FirstBut}
use Rattle.names.proofs.goals.first_found.Given as goal

abbrev pub invariant-loop-goal : goal.invariant-loop-goal
invariant-loop-goal l = (layers : List LayerOf) → Tells layers (flat_map (λ goal. names_in_goal (named_goal_of goal)) l.goals) l.fn.finder
    → Tells layers (flat_map (λ goal. names_in_goal (named_goal_of goal)) (drop l.goal-index l.goals)) l.finder
    × FirstBut (goals_of_word layers) l.most (map goal_seen l.first.items) (map named_goal_of (drop l.goal-index l.goals)) (goals_named layers (map named_goal_of l.goals))
