-- Which goals words ask for, over a stack of layers.
use Rattle.std.specs.Prelude.{ℕ, List, [], ◌∷◌, map, take, Result, Ok}
use Rattle.contract_words.specs.Faults.{◌>>=◌}
use Rattle.contract_words.specs.Sequences.{joined_each}
use Rattle.json_input.specs.Each.{each}
use Rattle.overlay_map.specs.Layer.{LayerOf}
use Rattle.res_value.specs.Goal.{GoalSeen, IdGoal, AttrGoal}
use Rattle.names.specs.NameFault.{NameFaultOf}
use Rattle.names.specs.NamedGoal.{NamedGoalOf, GoalOfIds, GoalsOfSet, GoalOfAttr}
use Rattle.names.specs.NamedIds.{id_named, ids_of_set}

-- a goal of ids as it stands; a goal for each id of a set; one for an attribute, which is looked up before its styles
unfoldable pub goals_of_word : List LayerOf → NamedGoalOf → Result (List GoalSeen) NameFaultOf
goals_of_word layers (GoalOfIds goal) = Ok (goal ∷ [])
goals_of_word layers (GoalsOfSet set) = ids_of_set layers set >>= λ ids. Ok (map (λ id. IdGoal id) ids)
goals_of_word layers (GoalOfAttr attr styles) = do
  attr ← id_named layers attr
  styles ← each (id_named layers) styles
  Ok (AttrGoal attr styles ∷ [])

-- the goals of each word, one word after the other
unfoldable pub goals_named : List LayerOf → List NamedGoalOf → Result (List GoalSeen) NameFaultOf
goals_named layers goals = joined_each (goals_of_word layers) goals

-- the first of them, at most so many; a word that asks for none is a fault wherever it stands
unfoldable pub first_goals : List LayerOf → List NamedGoalOf → ℕ → Result (List GoalSeen) NameFaultOf
first_goals layers goals most = goals_named layers goals >>= λ all. Ok (take most all)
