use Rattle.std.proofs.Common.{map, take}
use Rattle.res_value.specs.Goal.{goal_seen, IdGoal}
use Rattle.names.specs.WordGoals.{IsFirst}
use Rattle.names.proofs.goals.push_ids.Given as goal

abbrev pub invariant-loop-id : goal.invariant-loop-id
invariant-loop-id l = IsFirst l.most (map goal_seen l.fn.first.items) (map (λ id. IdGoal id) (take l.id-index l.ids)) (map goal_seen l.first.items)
