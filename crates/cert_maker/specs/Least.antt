-- What more it promises where at most one coordinate of the box has several values.
use Rattle.std.specs.Prelude.{◌≡◌, ℕ, ◌+◌, ◌*◌, ◌<◌, ◌≤◌, List, Some, length, slice_get}
use Rattle.cert_checker.specs.config_record.declared.coord.Coord.{Coord}
use Rattle.cert_checker.specs.overlay_map.Layer.{LayerOf}
use Rattle.cert_checker.specs.box_answers.NumberSet.{SetOf}
use Rattle.cert_checker.specs.cert_tree.Certificate.{NodeOf, GoalOf, goals_of, node_count}
use Rattle.cert_checker.specs.res_value.Goal.{GoalSeen}
use Rattle.cert_checker.specs.Fails.{NoRuleFails}
use Rattle.cert_checker.specs.FirstFault.{goal_trace, IsAccepted}
use Rattle.cert_maker.specs.Runs.{runs_along, IsOnLine}
use Rattle.cert_maker.specs.declared.made.Made.{Made}
use Rattle.cert_maker.specs.declared.made.Made.TheVariants.{Cert, Counter, NodeLimit}

-- twice as many nodes as there are runs, less one, and no accepted tree for the goal has fewer
pub record IsLeastTree (stack : List LayerOf) (sets : List SetOf) (c : Coord) (d : List ℕ) (tree : GoalOf) : Type 0 where
  pub nodes : length tree.nodes + 1 ≡ 2 * runs_along (goal_trace stack tree.goal) sets c d
  pub least : (other : List NodeOf) → NoRuleFails (goal_trace stack tree.goal) sets other → length tree.nodes ≤ length other

-- each tree is the least; or no certificate within the limit is accepted
abbrev pub IsLeast : List LayerOf → List SetOf → List GoalSeen → ℕ → Made → Type 0
IsLeast stack sets asked most (Cert certificate) =
    (c : Coord) (d : List ℕ) → IsOnLine sets c d → (g : ℕ) (tree : GoalOf) → slice_get (goals_of certificate) g ≡ Some tree → IsLeastTree stack sets c d tree
IsLeast stack sets asked most (Counter g device end) = Unit {0}
IsLeast stack sets asked most NodeLimit =
    (c : Coord) (d : List ℕ) → IsOnLine sets c d → (trees : List GoalOf) → IsAccepted stack sets asked trees → most < node_count trees
