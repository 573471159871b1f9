-- What a word asks where goals may stand: a goal of ids, a set of resources, each of which is a goal, or an attribute under
-- styles, as `attr/colorAccent@style/Theme,style/Other`.
use Rattle.std.specs.Prelude.{ℕ, List, map, Option, Some, None, Result, Ok, Err, ok_or}
use Rattle.contract_words.specs.Faults.{◌>>=◌}
use Rattle.json_input.specs.Each.{each}
use Rattle.res_value.specs.declared.goal_fault.GoalFault.{GoalFault}
use Rattle.res_value.specs.declared.goal_fault.GoalFault.TheVariants.{Malformed}
use Rattle.res_value.specs.Goal.{GoalSeen, GoalWordOf, PlainWord, UnderStyles, goal_seen, goal_word_in, goal_in}
use Rattle.names.specs.declared.named_goal.NamedGoal.{NamedGoal}
use Rattle.names.specs.declared.named_goal.NamedGoal.TheVariants.{Ids, Resources, Attr}
use Rattle.names.specs.Named.{NamedOf, named_of, named_in}
use Rattle.names.specs.NamedSet.{NamedSetOf, named_set_of, named_set_in}

-- a goal of ids, where each of these ends, or where an attribute ends under styles
pub data NamedGoalOf : Type 0 where
  GoalOfIds : GoalSeen → NamedGoalOf
  GoalsOfSet : NamedSetOf → NamedGoalOf
  GoalOfAttr : NamedOf → List NamedOf → NamedGoalOf

abbrev pub named_goal_of : NamedGoal → NamedGoalOf
named_goal_of (Ids goal) = GoalOfIds (goal_seen goal)
named_goal_of (Resources set) = GoalsOfSet (named_set_of set)
named_goal_of (Attr attr styles) = GoalOfAttr (named_of attr) (map named_of styles.items)

-- an attribute, or a style of a goal
unfoldable pub style_in : List ℕ → Result NamedOf GoalFault
style_in text = ok_or (named_in text) Malformed

-- an attribute under styles, by names and ids
unfoldable pub attr_of_parts : GoalWordOf → Result NamedGoalOf GoalFault
attr_of_parts (PlainWord text) = Err Malformed
attr_of_parts (UnderStyles attr styles) = do
  attr ← style_in attr
  styles ← each style_in styles
  Ok (GoalOfAttr attr styles)

-- a set that was read, or else an attribute under styles
abbrev pub or_attr : Option NamedSetOf → List ℕ → Result NamedGoalOf GoalFault
or_attr (Some set) word = Ok (GoalsOfSet set)
or_attr None word = goal_word_in word >>= attr_of_parts

-- what a word asks for by names
unfoldable pub with_names_in : List ℕ → Result NamedGoalOf GoalFault
with_names_in word = or_attr (named_set_in word) word

-- a goal that was read, or else what the word asks for with names
abbrev pub or_with_names : Result GoalSeen GoalFault → List ℕ → Result NamedGoalOf GoalFault
or_with_names (Ok goal) word = Ok (GoalOfIds goal)
or_with_names (Err fault) word = with_names_in word

-- a goal of ids, or else what has names
unfoldable pub named_goal_in : List ℕ → Result NamedGoalOf GoalFault
named_goal_in word = or_with_names (goal_in word) word
