-- The goals of a word. Contracts within the crate alone speak of this.
use Rattle.std.specs.Prelude.{◌≡◌, ℕ, ◌≤◌, List, [], ◌∷◌, ◌++◌, length, map, take}
use Rattle.res_value.specs.Goal.{GoalSeen, IdGoal, goal_seen}
use Rattle.names.specs.declared.goals.WordGoals.{WordGoals}
use Rattle.names.specs.declared.goals.WordGoals.TheVariants.{One, Each}

abbrev pub goals_in : WordGoals → List GoalSeen
goals_in (One goal) = goal_seen goal ∷ []
goals_in (Each ids) = map (λ id. IdGoal id) ids.value.items

-- these goals are the first of some and others, at most so many, where there were not more of the some
abbrev pub IsFirst : ℕ → List GoalSeen → List GoalSeen → List GoalSeen → Type 0
IsFirst most goals others first = length goals ≤ most → first ≡ take most (goals ++ others)
