-- The trees of the first of the goals that are asked. (Cited by contracts of this crate alone.)
use Rattle.std.specs.Prelude.{◌≡◌, ℕ, ◌+◌, List, ◌∷◌, ◌++◌, map, length, Option, Some, None}
use Rattle.std.specs.List.{All}
use Rattle.cert_checker.specs.overlay_map.Layer.{LayerOf}
use Rattle.cert_checker.specs.box_answers.NumberSet.{SetOf}
use Rattle.cert_checker.specs.cert_tree.Certificate.{GoalOf, goal_of, node_count}
use Rattle.cert_checker.specs.res_value.Goal.{GoalSeen}
use Rattle.cert_checker.specs.FirstFault.{goal_trace, goals_in, NoRuleFailsIn}
use Rattle.cert_maker.specs.FitsBox.{FitsBox}
use Rattle.cert_maker.specs.Needed.{IsNeeded}
use Rattle.cert_maker.specs.declared.made.Made.{Made}
use Rattle.cert_maker.specs.declared.trees.Trees.{Trees}
use Rattle.cert_maker.specs.Made.{IsMade, CanBeWritten}

-- no rule fails in a tree, its tests are needed, and its nodes are within what JSON can say
pub record IsGoodTree (stack : List LayerOf) (sets : List SetOf) (tree : GoalOf) : Type 0 where
  pub passes : NoRuleFailsIn stack sets tree
  pub needed : IsNeeded (goal_trace stack tree.goal) sets tree.nodes
  pub fits : All (FitsBox sets) tree.nodes

-- The goals but these have their trees. With one node for each of these there are so many nodes to spare.
pub record AreDone (stack : List LayerOf) (sets : List SetOf) (asked left : List GoalSeen) (most : ℕ) (trees : List GoalOf) (spare : ℕ) : Type 0 where
  pub goals : goals_in trees ++ left ≡ asked
  pub good : All (IsGoodTree stack sets) trees
  pub room : node_count trees + length left + spare ≡ most

-- the same of trees in the making
abbrev pub AreGrown : List LayerOf → List SetOf → List GoalSeen → List GoalSeen → ℕ → Trees → Type 0
AreGrown stack sets asked left most trees = AreDone stack sets asked left most (map goal_of trees.grown.items) trees.spare

-- whatever goals are asked, and whatever the limit is: the next goal has its tree, or this is the answer
abbrev pub TakesGoal : List LayerOf → List SetOf → GoalSeen → Trees → Trees → Option Made → Type 0
TakesGoal stack sets goal old new None =
    (asked left : List GoalSeen) (most : ℕ) → AreGrown stack sets asked (goal ∷ left) most old → AreGrown stack sets asked left most new
TakesGoal stack sets goal old new (Some made) =
    (asked left : List GoalSeen) (most : ℕ) → AreGrown stack sets asked (goal ∷ left) most old
    → IsMade stack sets asked most made × CanBeWritten sets made
