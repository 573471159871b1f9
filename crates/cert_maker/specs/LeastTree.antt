-- The law of the least tree. It speaks of boxes of which at most one coordinate has several values.
use Rattle.std.specs.Prelude.{ℕ, ◌+◌, ◌*◌, ◌≤◌, List, length}
use Rattle.cert_checker.specs.config_record.declared.coord.Coord.{Coord}
use Rattle.cert_checker.specs.overlay_map.Layer.{LayerOf}
use Rattle.cert_checker.specs.box_answers.NumberSet.{SetOf}
use Rattle.cert_checker.specs.box_answers.Members.{IsBox}
use Rattle.cert_checker.specs.cert_tree.Certificate.{NodeOf}
use Rattle.cert_checker.specs.res_value.Goal.{GoalSeen}
use Rattle.cert_checker.specs.Fails.{NoRuleFails}
use Rattle.cert_checker.specs.FirstFault.{goal_trace}
use Rattle.cert_maker.specs.Needed.{IsNeeded}
use Rattle.cert_maker.specs.Runs.{runs_along, VariesAlone, IsOnLine}

-- each such box has a member of which the laws speak
abbrev pub HasMember : Type 0
HasMember = (sets : List SetOf) (c : Coord) → IsBox sets → VariesAlone sets c → (d : List ℕ) × IsOnLine sets c d

-- a tree whose tests are needed has at most twice as many nodes as there are runs, less one
abbrev pub NeededIsSmall : Type 0
NeededIsSmall =
    (stack : List LayerOf) (goal : GoalSeen) (sets : List SetOf) (c : Coord) (d : List ℕ) (nodes : List NodeOf) → IsOnLine sets c d
    → IsNeeded (goal_trace stack goal) sets nodes → length nodes + 1 ≤ 2 * runs_along (goal_trace stack goal) sets c d

-- and a tree of which no rule fails has at least as many
abbrev pub AcceptedIsLarge : Type 0
AcceptedIsLarge =
    (stack : List LayerOf) (goal : GoalSeen) (sets : List SetOf) (c : Coord) (d : List ℕ) (nodes : List NodeOf) → IsOnLine sets c d
    → NoRuleFails (goal_trace stack goal) sets nodes → 2 * runs_along (goal_trace stack goal) sets c d ≤ length nodes + 1

-- so no tree that is accepted has fewer nodes than one whose tests are needed
abbrev pub NeededIsLeast : Type 0
NeededIsLeast =
    (stack : List LayerOf) (goal : GoalSeen) (sets : List SetOf) (c : Coord) (d : List ℕ) (needed accepted : List NodeOf) → IsOnLine sets c d
    → IsNeeded (goal_trace stack goal) sets needed → NoRuleFails (goal_trace stack goal) sets accepted → length needed ≤ length accepted
