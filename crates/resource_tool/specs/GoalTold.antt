-- The goal that an answer is about, in words.
use Rattle.std.specs.Prelude.{ℕ, Bool, List, [], ◌∷◌, ◌++◌, codes, slice_get, Option, Some, None, if◌then◌else◌}
use Rattle.std.specs.Fmt.{decimal}
use Rattle.resource_text.specs.cert_maker.res_value.Goal.{GoalSeen, IdGoal, AttrGoal}
use Rattle.command_base.specs.overlay_map.Layer.{LayerOf}
use Rattle.command_base.specs.answer_text.GoalText as text

-- the word of a goal, and the names of its ids
unfoldable pub named_words : List LayerOf → GoalSeen → List ℕ
named_words stack (IdGoal id) = text.goal_words stack id.0 []
named_words stack (AttrGoal attr styles) = text.goal_words stack attr.0 styles

-- the line `goal G WORD NAMES`; goals are counted from 0
unfoldable pub goal_line : List LayerOf → ℕ → GoalSeen → List ℕ
goal_line stack place goal = codes "goal " ++ decimal place ++ codes " " ++ named_words stack goal ++ 10 ∷ []

-- that of a goal of a list, where there is one
unfoldable pub line_of : List LayerOf → ℕ → Option GoalSeen → List ℕ
line_of stack place None = []
line_of stack place (Some goal) = goal_line stack place goal

-- the same of the goal that an answer is about, where it is about one
unfoldable pub line_about : List LayerOf → List GoalSeen → Option ℕ → List ℕ
line_about stack asked None = []
line_about stack asked (Some place) = line_of stack place (slice_get asked place)

-- what is said of that goal, which is something only where names are asked for
unfoldable pub goal_told : List LayerOf → List GoalSeen → Bool → Option ℕ → List ℕ
goal_told stack asked names about = if names then line_about stack asked about else []
