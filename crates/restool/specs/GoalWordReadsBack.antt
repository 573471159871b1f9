-- The word that is written of a goal is read as that goal.
use Rattle.std.specs.Prelude.{◌≡◌, ◌^◌, ◌<◌, ◌≤◌, List, [], ◌∷◌, length, Ok}
use Rattle.std.specs.List.{All}
use Rattle.resource_tool.specs.command_base.answer_text.res_value.declared.res_id.ResId.{ResId}
use Rattle.resource_tool.specs.command_base.answer_text.GoalText.{goal_word}
use Rattle.res_value.specs.Goal.{IdGoal, AttrGoal, most_styles}
use Rattle.resource_tool.specs.command_base.names.NamedGoal.{GoalOfIds, named_goal_in}

-- a number of 32 bits
abbrev pub IsId : ResId → Type 0
IsId id = id.0 < 2 ^ 32

-- that of an id asks for this id alone
abbrev pub IdWordReadsBack : Type 0
IdWordReadsBack = (id : ResId) → IsId id → named_goal_in (goal_word id.0 []) ≡ Ok (GoalOfIds (IdGoal id))

-- that of an attribute under some styles asks for this attribute under these styles, in their order
abbrev pub AttrWordReadsBack : Type 0
AttrWordReadsBack =
    (attr first : ResId) (others : List ResId) → IsId attr → All IsId (first ∷ others) → length (first ∷ others) ≤ most_styles
    → named_goal_in (goal_word attr.0 (first ∷ others)) ≡ Ok (GoalOfIds (AttrGoal attr (first ∷ others)))
